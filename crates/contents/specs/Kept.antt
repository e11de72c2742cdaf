-- Which records are needed, and which are kept: by slices, which go whole.
use Rattle.std.specs.Prelude.{ℕ, ◌+◌, ◌==◌, ◌&&◌, nat_lt, min, if◌then◌else◌, Bool, true, false, List, [], ◌∷◌, ◌++◌}
use Rattle.std.specs.List.{filter, list_any}
use Rattle.as_base.specs.declared.item.Record.{Record}
use Rattle.as_base.specs.declared.message.Msg.{Msg}
use Rattle.as_base.specs.declared.message.Msg.TheVariants as msg
use Rattle.as_base.specs.declared.query.Kind.{Kind}
use Rattle.as_base.specs.declared.query.Kind.TheVariants.{Select, Sum, Count, Join}
use Rattle.as_base.specs.declared.stream.StreamId.{StreamId}
use Rattle.as_base.specs.Windows.{end_of, last_window}
use Rattle.views.specs.Query.{Query}
use Rattle.views.specs.Slots.{Holder, cut_of}
use Rattle.views.specs.View.{is_of, is_mine}
use Rattle.contents.specs.Past.{Past, no_past, followed, mark_for}

-- window k is not passed: the query's watermark has reached neither its end nor the end of the query's life
abbrev pub is_open_window : List ℕ → Query → ℕ → Bool
is_open_window marks q k = nat_lt (mark_for marks q) (min (end_of q.plan.win k) q.to)

-- some window that holds the time is not passed: the last of them, which ends last
abbrev pub is_open : List ℕ → Query → ℕ → Bool
is_open marks q t = is_open_window marks q (last_window q.plan.win t)

-- whether a query of this kind still wants a record of the time: a selection until it is passed, a join while some window
-- that holds it is not; sums and counts keep no records
abbrev pub wants : Kind → List ℕ → Query → ℕ → Bool
wants Select marks q t = nat_lt (mark_for marks q) (t + 1)
wants Join marks q t = is_open marks q t
wants (Sum c) marks q t = false
wants Count marks q t = false

-- the record belongs to the query, which still wants it
abbrev pub needs : List ℕ → Record → Query → Bool
needs marks r q = is_mine q r.given.stream r && wants q.plan.kind marks q r.given.time

-- Some query needs the record.
abbrev pub is_needed : Past → Record → Bool
is_needed p r = list_any (λ (h : Holder). needs p.marks r h.query) p.holders

-- selections and joins keep records
abbrev pub keeps : Kind → Bool
keeps Select = true
keeps Join = true
keeps (Sum c) = false
keeps Count = false

-- the record belongs to some selection or join
abbrev pub is_wanted : List Holder → Record → Bool
is_wanted hs r = list_any (λ (h : Holder). keeps h.query.plan.kind && is_mine h.query r.given.stream r) hs

-- the record is in the slice of the stream that begins there
abbrev pub is_in : List Holder → StreamId → ℕ → Record → Bool
is_in hs s c r = is_of s r && c == cut_of hs r

-- the records of the slice
abbrev pub slice_at : List Holder → StreamId → ℕ → List Record → List Record
slice_at hs s c records = filter (is_in hs s c) records

-- the slice of the record holds a needed one among these
abbrev pub in_needed_slice : Past → List Record → Record → Bool
in_needed_slice p records r = list_any (is_needed p) (slice_at p.holders r.given.stream (cut_of p.holders r) records)

-- The records that are kept after one message more, which makes this past: a record that a selection or a join has comes
-- to them; an advance takes out each slice that holds no needed one; a change leaves them.
abbrev pub kept_with : Past → List Record → Msg → List Record
kept_with p records (msg.Rec r) = if is_wanted p.holders r then records ++ r ∷ [] else records
kept_with p records (msg.Advance wm) = filter (in_needed_slice p records) records
kept_with p records (msg.Change c) = records

-- those that are kept after more messages
abbrev pub kept_from : Past → List Record → List Msg → List Record
kept_from p records [] = records
kept_from p records (m ∷ ms) = kept_from (followed p m) (kept_with (followed p m) records m) ms

-- The records that are kept after messages.
abbrev pub kept : List Msg → List Record
kept ms = kept_from no_past [] ms
