-- The pieces that the fragments of all parts make.
use Rattle.std.specs.Prelude.{ℕ, List, [], ◌∷◌}
use Rattle.std.specs.List.{flat_map}
use Rattle.as_base.specs.declared.answer.Piece.{Piece}
use Rattle.as_base.specs.declared.fragment.Fragment.{Fragment}
use Rattle.row_text.specs.RowText.{row_text}
use Rattle.result_router.specs.Rising.{by_rising, number_of, start_of}
use Rattle.result_router.specs.Rows.{rows_for}

-- the text of the fragments of one window
abbrev pub window_text : List Fragment → List ℕ
window_text fs = flat_map row_text (rows_for fs)

-- the text of the fragments of one query: window by window, by rising start
abbrev pub text_for : List Fragment → List ℕ
text_for fs = by_rising start_of window_text fs

-- a piece of these bytes; none of no bytes
abbrev pub piece_with : ℕ → List ℕ → List Piece
piece_with n [] = []
piece_with n (b ∷ bytes) = record { n = n; bytes = b ∷ bytes } ∷ []

-- the piece of the fragments of one query
abbrev pub piece_for : List Fragment → List Piece
piece_for [] = []
piece_for (f ∷ fs) = piece_with f.n (text_for (f ∷ fs))

-- The pieces of the fragments: one for each query, by rising number, and none empty.
abbrev pub pieces_of : List Fragment → List Piece
pieces_of fs = by_rising number_of piece_for fs
