-- What contracts see of an inbox, of its passes, and of one that was closed.
use Rattle.std.specs.Prelude.{ℕ, ◌+◌, length, List, [], ◌∷◌}
use Rattle.atomic_table.specs.Seated.{TableId}
use Rattle.crossbeam_queue.specs.Passes.{view, ruled_capacity}
use Rattle.inbox.specs.declared.passes.Inbox.{Inbox}
use Rattle.inbox.specs.declared.load.Load.{Load}
use Rattle.inbox.specs.declared.passes.FeedPass.{FeedPass}
use Rattle.inbox.specs.declared.passes.TakePass.{TakePass}
use Rattle.inbox.specs.declared.passes.Closed.{Closed}
use Rattle.inbox.specs.Roles.{loads, list_of}

-- the same, once for each feeder
abbrev pub five_times : {A : Type 0} → A → List A
five_times x = x ∷ x ∷ x ∷ x ∷ x ∷ []

-- which inbox it is
abbrev pub id_of : {W : Type 0} → Inbox W → TableId
id_of inbox = inbox.queue.table.shared.table_id

-- how many loads it has room for
abbrev pub room_of : {W : Type 0} → Inbox W → ℕ
room_of inbox = ruled_capacity inbox.queue

-- the inbox of a pass
abbrev pub inbox_of : FeedPass → TableId
inbox_of pass = pass.pass.table_id

abbrev pub taker_inbox : TakePass → TableId
taker_inbox pass = pass.pass.table_id

abbrev pub feeder_in : FeedPass → ℕ
feeder_in pass = pass.feeder

-- what the feeder has offered, in order
abbrev pub offered : FeedPass → List Load
offered pass = loads (list_of (view pass.pass) pass.feeder)

-- what was taken, in order, each load with its feeder
abbrev pub taken : TakePass → List (ℕ × Load)
taken pass = list_of (view pass.pass) 0

-- what the feeder's pass had offered when the inbox was closed
abbrev pub closed_offered : Closed → ℕ → List Load
closed_offered closed feeder = loads (list_of (view closed.pass) feeder)

-- what the taker's pass had taken then
abbrev pub closed_taken : Closed → List (ℕ × Load)
closed_taken closed = list_of (view closed.pass) 0

-- how many loads the five feeders had offered then
abbrev pub offered_in_all : Closed → ℕ
offered_in_all c =
    length (closed_offered c 1) + length (closed_offered c 2) + length (closed_offered c 3) + length (closed_offered c 4) + length (closed_offered c 5)
