-- The ranges of an item's numbers.
use Rattle.std.specs.Prelude.{ℕ, ◌≡◌, ◌<◌, ◌^◌, length, IsTrue}
use Rattle.std.specs.List.{AllByRecursion}
use Rattle.as_words.specs.Number.{IsSigned}
use Rattle.as_base.specs.Text.{is_text}
use Rattle.as_base.specs.declared.item.Item.{Item}
use Rattle.as_base.specs.declared.item.Item.TheVariants.{Rec, Mark, End, Create, Delete, Bad}

-- the time is one that a line may name
abbrev pub IsTime : ℕ → Type 0
IsTime t = t < 2 ^ 62

-- The times and the number of a query that the item has are in the ranges that a line may spell, and its text is one.
abbrev pub InRange : Item → Type 0
InRange (Rec g) = IsTime g.time
InRange (Mark s t) = IsTime t
InRange (End s) = Unit {0}
InRange (Create t) = IsTrue (is_text t)
InRange (Delete n) = n < 2 ^ 63
InRange (Bad c) = Unit {0}

-- All numbers of the item are in range: those of `InRange`, and of a record its key and four values.
abbrev pub IsSpelled : Item → Type 0
IsSpelled (Rec g) = InRange (Rec g) × IsSigned g.key × (length g.v ≡ 4) × AllByRecursion IsSigned g.v
IsSpelled item = InRange item
