-- For what the queries of slots wait at the beginning of a slice.
use Rattle.std.specs.Prelude.{ℕ, ◌^◌, ◌==◌, ◌&&◌, not, nat_le, if◌then◌else◌, Bool, true, false, List, map, replicate}
use Rattle.std.specs.List.{list_any, range_with_len}
use Rattle.as_base.specs.declared.query.Kind.{Kind}
use Rattle.as_base.specs.declared.query.Kind.TheVariants.{Select, Sum, Count, Join}
use Rattle.as_base.specs.Windows.{last_window}
use Rattle.by_start.specs.declared.Begun.{Begun}
use Rattle.slice_store.specs.declared.placements.Held.{Held}
use Rattle.slice_store.specs.Placed.{may_go}
use Rattle.views.specs.Slots.{Holder, lives_at}
use Rattle.contents.specs.Cells.{adds_up}
use Rattle.contents.specs.Kept.{is_open_window}
use Rattle.contents.specs.Pairs.{is_join}
use Rattle.part_state.specs.declared.waiting.Wait.{Wait}
use Rattle.part_state.specs.declared.waiting.Wait.TheVariants.{Selecting, Joining, Passed}

-- the query is a selection
abbrev pub is_selection : Kind → Bool
is_selection Select = true
is_selection (Sum c) = false
is_selection Count = false
is_selection Join = false

-- the last window of the query that holds the time is not passed by the watermarks
abbrev pub has_open : List ℕ → ℕ → Holder → Bool
has_open marks start h = is_open_window marks h.query (last_window h.query.plan.win start)

-- a selection; a join that waits for a window; a sum or a count whose windows are passed
abbrev pub suits : Wait → List ℕ → ℕ → Holder → Bool
suits Selecting marks start h = is_selection h.query.plan.kind
suits Joining marks start h = is_join h.query.plan.kind && has_open marks start h
suits Passed marks start h = adds_up h.query.plan.kind && not (has_open marks start h)

-- the query lives at the beginning of the slice, and is such a one
abbrev pub waits : Wait → List ℕ → ℕ → Holder → Bool
waits wait marks start h = lives_at h.query start && suits wait marks start h

-- the slots of the holders that pass a test, as a set
unfoldable pub slots_of : (Holder → Bool) → List Holder → List Bool
slots_of test hs = map (λ slot. list_any (λ (h : Holder). h.slot == slot && test h) hs) (range_with_len 0 512)

-- the slots whose queries wait so at the beginning of a slice; none after the end of time
abbrev pub waiting : Wait → List ℕ → ℕ → List Holder → List Bool
waiting wait marks start hs = if nat_le (2 ^ 62) start then replicate 512 false else slots_of (waits wait marks start) hs

-- some query waits for a record of the slice
abbrev pub stays : List Holder → List ℕ → ℕ → Begun Held → Bool
stays hs marks mark b = not (may_go (waiting Joining marks b.start hs) (waiting Selecting marks b.start hs) mark b.thing.placed)
