-- Which slots have owners that keep records.
use Rattle.std.specs.Prelude.{ℕ, Bool, false, Option, Some, None, List}
use Rattle.as_base.specs.declared.message.Change.{Change}
use Rattle.as_base.specs.declared.query.Plan.{Plan}
use Rattle.changelog.specs.BySlot.{by_slot}
use Rattle.contents.specs.Kept.{keeps}

-- the owner of a slot keeps records: it is a selection or a join
abbrev pub keeps_records : Option (ℕ × Plan) → Bool
keeps_records None = false
keeps_records (Some q) = keeps q.1.kind

-- for each of the 512 slots, whether its owner in the epoch keeps records
abbrev pub keeping : List Change → ℕ → List Bool
keeping cs epoch = by_slot keeps_records cs epoch
