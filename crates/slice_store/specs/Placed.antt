-- What is placed: records with their sets of query slots, and for what they are still wanted.
use Rattle.std.specs.Prelude.{ℕ, nat_le, Bool, not, ◌&&◌, ◌||◌, List, map}
use Rattle.std.specs.List.{list_any}
use Rattle.std.specs.Simd.Lanes.{zip2}
use Rattle.as_base.specs.declared.item.Record.{Record}
use Rattle.queryset_lanes.specs.Slots.{meets}

-- an accepted record, and the set of query slots that it was placed with
pub record Placed : Type 0 where
  pub accepted : Record
  pub set : List Bool

-- the record with the set
abbrev pub placed : Record → List Bool → Placed
placed r slots = record { accepted = r; set = slots }

-- each record with the set that stands beside it
abbrev pub placed_of : List Record → List (List Bool) → List Placed
placed_of = zip2 placed

-- the records that were placed, in order
abbrev pub records_of : List Placed → List Record
records_of ps = map (λ (p : Placed). p.accepted) ps

-- the sets that they were placed with, in order
abbrev pub sets_of : List Placed → List (List Bool)
sets_of ps = map (λ (p : Placed). p.set) ps

-- Somebody still waits for it: a window, where its set meets that of the windows; or a selection, where its time is the
-- watermark or later, and its set meets that of the selections.
abbrev pub is_awaited : List Bool → List Bool → ℕ → Placed → Bool
is_awaited windows selects wm p = meets p.set windows || (nat_le wm p.accepted.given.time && meets p.set selects)

-- nobody waits for any of them
abbrev pub may_go : List Bool → List Bool → ℕ → List Placed → Bool
may_go windows selects wm ps = not (list_any (is_awaited windows selects wm) ps)
