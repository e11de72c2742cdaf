-- Worked rows, evaluated on the definitions alone.
use Rattle.std.specs.Prelude.{◌≡◌, ℕ, pos, Some, None, List, [], ◌∷◌, refl, codes}
use Rattle.std.specs.Fmt.{digits}
use Rattle.as_base.specs.declared.config.Config.{Config}
use Rattle.as_base.specs.declared.answer.Word.TheVariants as word
use Rattle.as_base.specs.declared.item.Cause.TheVariants.{Form}
use Rattle.as_base.specs.declared.item.Item.TheVariants.{Rec, Mark, Create, Bad}
use Rattle.as_base.specs.declared.stream.StreamId.TheVariants.{A}
use Rattle.net_core.specs.Machine.{Event, Outcome, start, outcomes}
use Rattle.net_core.specs.Machine.Event.{Arrive, Turn, Gather}
use Rattle.net_core.specs.Machine.TurnOutcome.{Idle, BackFull, Did}
use Rattle.net_core.specs.Machine.Outcome.{Arrived, Blocked, Turned, Nothing, Held, Took}

-- two parts, with room for so many messages before each
abbrev with_room : ℕ → Config
with_room lane = record { streams = 2; slots = 1; parts = 2; lane = lane }

-- what comes of the events, from the start
abbrev comes : ℕ → List Event → List Outcome
comes lane events = outcomes (with_room lane) (start (with_room lane)) events

-- Watermarks go to both parts, each of which has to make room for the next, and to reply.
pub both_reply : comes 1 (Arrive (Mark A 5) ∷ Arrive (Mark A 6) ∷ Turn 0 ∷ Arrive (Mark A 6) ∷ Turn 1 ∷ Gather 0 ∷ Gather 0 ∷ Gather 1 ∷ [])
    ≡ Arrived None ∷ Blocked 0 ∷ Turned Did ∷ Blocked 1 ∷ Turned Did ∷ Took [] ∷ Nothing ∷ Took [] ∷ []
both_reply = refl

-- A line that is no item goes to no part.
pub none_replies : comes 1 (Arrive (Bad Form) ∷ Turn 0 ∷ Gather 0 ∷ []) ≡ Arrived (Some (record { line = 1; word = word.Form })) ∷ Turned Idle ∷ Nothing ∷ []
none_replies = refl

-- A part waits where a reply of it is not gathered, and there is room for one.
pub no_room_behind : comes 1 (Arrive (Mark A 5) ∷ Turn 0 ∷ Turn 1 ∷ Arrive (Mark A 6) ∷ Turn 0 ∷ Gather 0 ∷ Turn 0 ∷ [])
    ≡ Arrived None ∷ Turned Did ∷ Turned Did ∷ Arrived None ∷ Turned BackFull ∷ Took [] ∷ Turned Did ∷ []
no_room_behind = refl

-- A part may be ahead of the other by two replies, of which one is gathered until the other part has replied.
pub one_is_ahead : comes 2 (Arrive (Mark A 5) ∷ Arrive (Mark A 6) ∷ Turn 0 ∷ Turn 0 ∷ Gather 0 ∷ Gather 0 ∷ [])
    ≡ Arrived None ∷ Arrived None ∷ Turned Did ∷ Turned Did ∷ Took [] ∷ Held ∷ []
one_is_ahead = refl

-- The reply that settles a watermark brings what it makes due.
pub row_is_due : comes 3 (
    Arrive (Create (codes "select from a"))
    ∷ Arrive (Rec (record { stream = A; time = 5; key = pos 1; v = pos 10 ∷ pos 0 ∷ pos 0 ∷ pos 0 ∷ [] }))
    ∷ Arrive (Mark A 6) ∷ Turn 0 ∷ Turn 0 ∷ Turn 0 ∷ Turn 1 ∷ Turn 1 ∷ Gather 1 ∷ Turn 1 ∷ Gather 1 ∷ Gather 0 ∷ [])
    ≡ Arrived (Some (record { line = 1; word = word.Created 1 0 })) ∷ Arrived None
    ∷ Arrived None ∷ Turned Did ∷ Turned Did ∷ Turned Idle ∷ Turned Did ∷ Turned Did ∷ Nothing ∷ Turned Did ∷ Took []
    ∷ Took ((record { n = 1; bytes = codes "5 1 10 0 0 0\n" }) ∷ []) ∷ []
unfolding digits
row_is_due = refl
