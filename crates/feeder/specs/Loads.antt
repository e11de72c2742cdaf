-- What loads say: the items of lines, and how the source ended.
use Rattle.std.specs.Prelude.{ℕ, ◌≡◌, ◌<◌, Option, Some, None, Bool, true, false, ◌&&◌, ◌==◌, List, [], ◌∷◌}
use Rattle.std.specs.List.{flat_map, list_any}
use Rattle.as_base.specs.declared.item.Item.{Item}
use Rattle.inbox.specs.declared.load.Load.{Load}
use Rattle.inbox.specs.declared.load.Load.TheVariants.{Line, Last}
use Rattle.inbox.specs.declared.load.Ending.{Ending}

-- the item of a line
abbrev pub line_in : Load → List Item
line_in (Line item) = item ∷ []
line_in (Last e) = []

-- the items of the lines among the loads, in order
abbrev pub lines_in : List Load → List Item
lines_in loads = flat_map line_in loads

-- the items of the lines among the parcels of all feeders, in order
abbrev pub lines_of : List (ℕ × Load) → List Item
lines_of parcels = flat_map (λ (p : ℕ × Load). line_in p.1) parcels

-- how the first last load says that the source ended
abbrev pub ending_in : List Load → Option Ending
ending_in [] = None
ending_in (Line item ∷ loads) = ending_in loads
ending_in (Last e ∷ loads) = Some e

abbrev pub is_last : Load → Bool
is_last (Line item) = false
is_last (Last e) = true

-- a last load of the feeder is among the parcels
abbrev pub has_last : ℕ → List (ℕ × Load) → Bool
has_last feeder parcels = list_any (λ (p : ℕ × Load). (p.0 == feeder) && is_last p.1) parcels

-- a last load of each feeder is among the parcels
abbrev pub AllEnded : List (ℕ × Load) → Type 0
AllEnded parcels = (i : ℕ) → 0 < i → i < 6 → has_last i parcels ≡ true
