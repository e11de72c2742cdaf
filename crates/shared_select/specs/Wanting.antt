-- Which slots want a record: by the owners in an epoch, and by the bounds that these set for one stream.
use Rattle.std.specs.Prelude.{ℕ, Bool, false, ◌&&◌, if◌then◌else◌, Option, Some, None, List, map}
use Rattle.std.specs.List.{range_with_len}
use Rattle.as_base.specs.declared.item.Given.{Given}
use Rattle.as_base.specs.declared.message.Change.{Change}
use Rattle.as_base.specs.declared.query.Bounds.{Bounds}
use Rattle.as_base.specs.declared.query.Plan.{Plan}
use Rattle.as_base.specs.declared.stream.StreamId.{StreamId}
use Rattle.as_base.specs.Query.{holds_all}
use Rattle.views.specs.View.{reads, bounds_for}
use Rattle.changelog.specs.BySlot.{by_slot}

-- The owner of a slot wants a record: it reads the record's stream, and its bounds for that stream hold the record.
abbrev pub wants : Given → Option (ℕ × Plan) → Bool
wants g None = false
wants g (Some q) = reads q.1 g.stream && holds_all (bounds_for q.1 g.stream) g

-- for each of the 512 slots, whether its owner in the epoch wants the record
abbrev pub wanting : List Change → ℕ → Given → List Bool
wanting cs epoch g = by_slot (wants g) cs epoch

-- the bounds that the owner of a slot sets for a stream; none where it does not read the stream, or nobody owns the slot
abbrev pub bounds_on : StreamId → Option (ℕ × Plan) → Option Bounds
bounds_on s None = None
bounds_on s (Some q) = if reads q.1 s then Some (bounds_for q.1 s) else None

-- for each of the 512 slots, the bounds that its owner in the epoch sets for the stream
abbrev pub bounds_in : List Change → ℕ → StreamId → List (Option Bounds)
bounds_in cs epoch s = by_slot (bounds_on s) cs epoch
