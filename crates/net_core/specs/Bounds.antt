-- What holds at every position that events lead to.
use Rattle.std.specs.Prelude.{ℕ, ◌+◌, ◌≤◌, ◌<◌}
use Rattle.as_base.specs.declared.config.Config.{Config}
use Rattle.net_core.specs.Machine.{Event, Position, sent_to, taken_by, replies_of, gathered_of, settled}
use Rattle.net_core.specs.Machine.Event.{Arrive, Turn, Gather}

-- the event names a part that there is, if it names one
abbrev pub IsPlaced : Config → Event → Type 0
IsPlaced c (Arrive x) = Unit {0}
IsPlaced c (Turn p) = p < c.parts
IsPlaced c (Gather p) = p < c.parts

-- The part took no more messages than it was sent, and no more wait for it than there is room for; no more replies of it were
-- gathered than it made, and no more wait than there is room for; and at most one of those gathered waits for other parts.
pub record IsWithin (c : Config) (z : Position) (p : ℕ) : Type 0 where
  pub taken : taken_by z p ≤ sent_to c z p
  pub lane : sent_to c z p ≤ taken_by z p + c.lane
  pub gathered : gathered_of z p ≤ replies_of c z p
  pub back : replies_of c z p ≤ gathered_of z p + c.lane
  pub ahead : gathered_of z p ≤ settled z + 1
