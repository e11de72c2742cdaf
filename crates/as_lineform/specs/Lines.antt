-- The lines of bytes, and the items that they say.
use Rattle.std.specs.Prelude.{ℕ, List, [], ◌∷◌, ◌++◌, map}
use Rattle.as_base.specs.declared.item.Item.{Item}
use Rattle.as_words.specs.Parts.{parts_of, but_last, last_of}
use Rattle.as_lineform.specs.Item.{item_of}

-- the lines that a line feed ends, without it
abbrev pub whole : List ℕ → List (List ℕ)
whole bytes = but_last (parts_of 10 bytes)

-- what follows the last line feed
abbrev pub rest : List ℕ → List ℕ
rest bytes = last_of (parts_of 10 bytes)

-- the items of the whole lines
abbrev pub lines : List ℕ → List Item
lines bytes = map item_of (whole bytes)

-- a last line without a line feed counts if it isn't empty
abbrev pub last_item : List ℕ → List Item
last_item [] = []
last_item (b ∷ line) = item_of (b ∷ line) ∷ []

-- the items of all the bytes
abbrev pub items : List ℕ → List Item
items bytes = lines bytes ++ last_item (rest bytes)
