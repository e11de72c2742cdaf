-- Which messages may follow others.
use Rattle.std.specs.Prelude.{ℕ, ◌≡◌, ◌≤◌, ◌<◌, ◌^◌, ◌==◌, ◌&&◌, Bool, List, [], ◌∷◌, length, IsTrue, IsFalse}
use Rattle.std.specs.List.{AllByRecursion, list_any}
use Rattle.as_base.specs.declared.item.Record.{Record}
use Rattle.as_base.specs.declared.message.Change.{Change}
use Rattle.as_base.specs.declared.message.Change.TheVariants.{Opened, Closed}
use Rattle.as_base.specs.declared.message.Msg.{Msg}
use Rattle.as_base.specs.declared.message.Msg.TheVariants as msg
use Rattle.as_base.specs.declared.query.Plan.{Plan}
use Rattle.as_base.specs.declared.stream.StreamId.{StreamId}
use Rattle.as_base.specs.Canonical.{IsCanonical, FitsPlan}
use Rattle.as_base.specs.Stream.{place_of}
use Rattle.views.specs.IsHolder.{time_of}
use Rattle.views.specs.Slots.{Holder}
use Rattle.contents.specs.Past.{Past, no_past, followed, mark_of}

-- the holder lives, and has the slot
abbrev pub is_live_in : ℕ → Holder → Bool
is_live_in slot h = h.slot == slot && h.query.live

-- the holder lives, and is query n in the slot
abbrev pub is_live_as : ℕ → ℕ → Holder → Bool
is_live_as n slot h = h.query.n == n && is_live_in slot h

-- The record is of a stream that there is, comes after all others by line and after those of its stream by time, and is
-- not late.
pub record RecordMayFollow (is_there : StreamId → Bool) (p : Past) (r : Record) : Type 0 where
  pub there : IsTrue (is_there r.given.stream)
  pub first : 1 ≤ r.seq
  pub most : r.seq ≤ 2 ^ 62
  pub line : AllByRecursion (λ (s : Record). s.seq < r.seq) p.records
  pub time : r.given.time < 2 ^ 62
  pub mark : mark_of p.marks r.given.stream ≤ r.given.time
  pub stream : AllByRecursion (λ (s : Record). place_of s.given.stream ≡ place_of r.given.stream → s.given.time ≤ r.given.time) p.records

-- The watermarks are four, none falls, and none is above 2^62.
pub record MarksMayFollow (p : Past) (marks : List ℕ) : Type 0 where
  pub four : length marks ≡ 4
  pub up : (s : StreamId) → mark_of p.marks s ≤ mark_of marks s
  pub most : (s : StreamId) → mark_of marks s ≤ 2 ^ 62

-- A change does not come before another, and comes after every record, and after every watermark but those of streams
-- without one and of ended streams.
pub record TimeMayFollow (p : Past) (at : ℕ) : Type 0 where
  pub few : length p.changes < 2 ^ 62
  pub most : at ≤ 2 ^ 62
  pub changes : AllByRecursion (λ (c : Change). time_of c ≤ at) p.changes
  pub records : AllByRecursion (λ (r : Record). r.given.time < at) p.records
  pub marks : (s : StreamId) → 0 < mark_of p.marks s → mark_of p.marks s < 2 ^ 62 → mark_of p.marks s < at

-- The plan is in its one form and in range, and reads streams that there are.
pub record MayOpen (is_there : StreamId → Bool) (plan : Plan) : Type 0 where
  pub canonical : IsCanonical plan
  pub fits : FitsPlan plan
  pub left : IsTrue (is_there plan.left)
  pub right : IsTrue (is_there plan.right)

-- The change may follow: one that opens a slot which is free, for a query with a number above all others, or one that
-- closes a query that lives in that slot.
abbrev pub ChangeMayFollow : (StreamId → Bool) → Past → Change → Type 0
ChangeMayFollow is_there p (Opened n slot at plan) =
    TimeMayFollow p at × (slot < 512) × AllByRecursion (λ (h : Holder). h.slot ≡ slot → IsFalse h.query.live) p.holders
    × AllByRecursion (λ (h : Holder). h.query.n < n) p.holders × MayOpen is_there plan
ChangeMayFollow is_there p (Closed n slot at) = TimeMayFollow p at × IsTrue (list_any (is_live_as n slot) p.holders)

-- The message may follow the past.
abbrev pub MayFollow : (StreamId → Bool) → Past → Msg → Type 0
MayFollow is_there p (msg.Rec r) = RecordMayFollow is_there p r
MayFollow is_there p (msg.Advance wm) = MarksMayFollow p wm
MayFollow is_there p (msg.Change c) = ChangeMayFollow is_there p c

-- each message may follow what those before it made
abbrev pub AreOrderlyFrom : (StreamId → Bool) → Past → List Msg → Type 0
AreOrderlyFrom is_there p [] = Unit {0}
AreOrderlyFrom is_there p (m ∷ ms) = MayFollow is_there p m × AreOrderlyFrom is_there (followed p m) ms

-- Messages that may come to a part for these streams, one after another.
abbrev pub AreOrderly : (StreamId → Bool) → List Msg → Type 0
AreOrderly is_there ms = AreOrderlyFrom is_there no_past ms
