-- The lines of bytes, with one more byte.
use Rattle.std.proofs.Common.{◌≡◌, ℕ, ◌==◌, if◌then◌else◌, true, false, List, [], ◌∷◌, ◌++◌, map, sym, ap, ◌∙◌, append-nil}
use Rattle.std.proofs.lemmas.List.{map-append}
use Rattle.as_lineform.specs.Item.{item_of}
use Rattle.as_lineform.specs.Lines.{whole, rest, lines}
use Rattle.as_words.proofs.PartLaws.{but_last_by_byte, last_of_by_byte}

-- one more byte: the rest of the bytes, and the items of the whole lines
pub rest_push : (bytes : List ℕ) (b : ℕ) → rest (bytes ++ b ∷ []) ≡ (if b == 10 then [] else rest bytes ++ b ∷ [])
rest_push bytes b = last_of_by_byte 10 bytes b

pub lines_push : (bytes : List ℕ) (b : ℕ) → lines (bytes ++ b ∷ []) ≡ lines bytes ++ (if b == 10 then item_of (rest bytes) ∷ [] else [])
lines_push bytes b =
    ap (map item_of) (but_last_by_byte 10 bytes b)
    ∙ elim (b == 10) as (λ t. map item_of (if t then whole bytes ++ rest bytes ∷ [] else whole bytes) ≡ lines bytes ++ (if t then item_of (rest bytes) ∷ [] else [])) [
      | true ↦ map-append item_of (whole bytes) (rest bytes ∷ [])
      | false ↦ sym (append-nil (lines bytes))
    ]
