-- The pieces of text that items make due.
use Rattle.std.specs.Prelude.{ℕ, if◌then◌else◌, List, [], ◌∷◌, ◌++◌, length, drop}
use Rattle.std.specs.List.{flat_map}
use Rattle.as_base.specs.declared.config.Config.{Config}
use Rattle.as_base.specs.declared.answer.Piece.{Piece}
use Rattle.as_base.specs.declared.item.Item.{Item}
use Rattle.session.specs.Answers.{walk}
use Rattle.session.specs.Book.{numbers}
use Rattle.session.specs.Prints.{prints}
use Rattle.session.specs.View.{text_of}

-- the piece of these bytes; none of no byte
abbrev pub piece_of : ℕ → List ℕ → List Piece
piece_of n [] = []
piece_of n (byte ∷ bytes) = (record { n = n; bytes = byte ∷ bytes }) ∷ []

-- what the text of output n has more after the item than after the items `h`
abbrev pub more_text : Config → List Item → Item → ℕ → List ℕ
more_text c h x n = drop (length (text_of c h n)) (text_of c (h ++ x ∷ []) n)

-- What the item makes due after the items `h`: a piece for each output that grows, by rising number.
abbrev pub due : Config → List Item → Item → List Piece
due c h x = flat_map (λ n. piece_of n (more_text c h x n)) (numbers c (h ++ x ∷ []))

-- what the item makes due, if it is an accepted watermark or end
abbrev pub due_at : Config → List Item → Item → List (List Piece)
due_at c h x = if prints c h x then due c h x ∷ [] else []

-- What each accepted watermark or end of the items makes due, in order.
abbrev pub dues : Config → List Item → List (List Piece)
dues c h = walk (due_at c) [] h
