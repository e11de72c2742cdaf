-- The line that spells an item.
use Rattle.std.specs.Prelude.{ℕ, List, [], ◌∷◌, ◌++◌, map, replicate, codes, decimal}
use Rattle.std.specs.Fmt.{signed_decimal}
use Rattle.as_base.specs.Stream.{stream_name}
use Rattle.as_base.specs.declared.item.Cause.TheVariants.{Long, Form}
use Rattle.as_base.specs.declared.item.Item.{Item}
use Rattle.as_base.specs.declared.item.Item.TheVariants.{Rec, Mark, End, Create, Delete, Bad}
use Rattle.as_words.specs.Words.{spaced}

-- A line whose item is this one. `Bad Form` is said by other lines too, and so is `Bad Long`; any other item has this line alone.
abbrev pub item_text : Item → List ℕ
item_text (Rec g) = codes "rec" ++ spaced (stream_name g.stream ∷ decimal g.time ∷ signed_decimal g.key ∷ map signed_decimal g.v)
item_text (Mark stream time) = codes "mark" ++ spaced (stream_name stream ∷ decimal time ∷ [])
item_text (End stream) = codes "end" ++ spaced (stream_name stream ∷ [])
item_text (Create []) = codes "create"
item_text (Create (b ∷ text)) = codes "create" ++ spaced ((b ∷ text) ∷ [])
item_text (Delete n) = codes "delete" ++ spaced (decimal n ∷ [])
item_text (Bad Form) = codes "?"
item_text (Bad Long) = replicate 4097 45

-- the line is in one of the forms
abbrev pub IsRead : Item → Type 0
IsRead (Bad c) = ⊥
IsRead _ = Unit {0}
