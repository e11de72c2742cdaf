-- The cells of sums and counts: what the records of a slice add up to for the owner of a slot.
use Rattle.std.specs.Prelude.{ℕ, ◌≡◌, ◌&&◌, if◌then◌else◌, Bool, true, false, Option, Some, None, List, []}
use Rattle.std.specs.List.{filter, flat_map}
use Rattle.as_base.specs.declared.fragment.Cell.{Cell}
use Rattle.as_base.specs.declared.item.Record.{Record}
use Rattle.as_base.specs.declared.query.Kind.{Kind}
use Rattle.as_base.specs.declared.query.Kind.TheVariants.{Select, Sum, Count, Join}
use Rattle.as_base.specs.declared.query.Plan.{Plan}
use Rattle.as_base.specs.declared.stream.StreamId.{StreamId}
use Rattle.as_base.specs.Windows.{in_window, last_window}
use Rattle.group_table.specs.Cells.{sums}
use Rattle.shared_agg.specs.Shares.{share_of}
use Rattle.shared_agg.specs.Slices.{is_between}
use Rattle.views.specs.Query.{Query}
use Rattle.views.specs.Slots.{Holder, owner}
use Rattle.views.specs.View.{is_mine}
use Rattle.contents.specs.Free.{member}
use Rattle.contents.specs.Kept.{is_open_window, is_open, slice_at}
use Rattle.contents.specs.Past.{Past}

-- sums and counts
abbrev pub adds_up : Kind → Bool
adds_up (Sum c) = true
adds_up Count = true
adds_up Select = false
adds_up Join = false

-- what a record adds for a query with this plan: a cell for a sum or a count, nothing for a selection or a join
abbrev pub share : Plan → Record → List Cell
share p r = share_of p.group p.kind r.given

-- what it adds for a query to which it belongs
abbrev pub whole_share : Query → Record → List Cell
whole_share q r = if is_mine q r.given.stream r then share q.plan r else []

-- what it adds for the owner of a slot; nothing where nobody owns it
abbrev pub whole_for : Record → Option Holder → List Cell
whole_for r None = []
whole_for r (Some h) = whole_share h.query r

-- the same while some window that holds the record is not passed
abbrev pub share_for : List ℕ → Record → Option Holder → List Cell
share_for marks r None = []
share_for marks r (Some h) = if is_open marks h.query r.given.time then whole_share h.query r else []

-- what the record adds to the cells of the slot
abbrev pub share_at : Past → ℕ → Record → List Cell
share_at p slot r = share_for p.marks r (owner p.holders r.given.time slot)

-- The cells of a slot in the slice of a stream that begins there, by rising group: what its records add up to for the owner
-- of the slot, those alone of which some window is not passed.
abbrev pub cells_at : Past → StreamId → ℕ → ℕ → List Cell
cells_at p s slot c = sums (flat_map (share_at p slot) (slice_at p.holders s c p.records))

-- the slot's owner where the slice begins has a window there that is not passed
abbrev pub is_open_for : List ℕ → ℕ → Option Holder → Bool
is_open_for marks c None = false
is_open_for marks c (Some h) = is_open_window marks h.query (last_window h.query.plan.win c)

abbrev pub is_open_at : List ℕ → List Holder → ℕ → ℕ → Bool
is_open_at marks hs slot c = is_open_for marks c (owner hs c slot)

-- what all records of the slice add up to for the owner of the slot, whatever is passed
abbrev pub whole_at : Past → StreamId → ℕ → ℕ → List Cell
whole_at p s slot c = sums (flat_map (λ (r : Record). whole_for r (owner p.holders r.given.time slot)) (slice_at p.holders s c p.records))

-- ---- windows

-- what the slot's cells add up to in those of the slices that begin within
abbrev pub cells_between : Past → StreamId → ℕ → List ℕ → ℕ → ℕ → List Cell
cells_between p s slot starts from to = sums (flat_map (cells_at p s slot) (filter (is_between from to) starts))

-- the record is of the stream, belongs to the query, and lies in its window k
abbrev pub is_in_window : StreamId → Query → ℕ → Record → Bool
is_in_window s q k r = is_mine q s r && in_window q.plan.win k r.given.time

-- what the records of window k add up to for a sum or a count
abbrev pub window_sums : Query → ℕ → List Record → List Cell
window_sums q k records = sums (flat_map (share q.plan) (filter (is_in_window q.plan.left q k) records))

-- the slices in which the slot has a cell are among these
abbrev pub HaveCells : Past → StreamId → ℕ → List ℕ → Type 0
HaveCells p s slot starts = (c : ℕ) → (cells_at p s slot c ≡ [] → ⊥) → member c starts ≡ true
