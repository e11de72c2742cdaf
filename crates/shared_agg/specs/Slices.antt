-- The slices of one stream.
use Rattle.std.specs.Prelude.{◌≡◌, ℕ, ℤ, ◌+◌, ◌-◌, ◌<◌, ◌≤◌, ◌^◌, ◌==◌, ◌&&◌, nat_le, nat_lt, false, if◌then◌else◌, Bool, Option, Some, None, List, [], ◌∷◌, ◌++◌, map, take, drop, slice_index_or, zero, suc, fold, count_by}
use Rattle.std.specs.List.{AllByRecursion, filter, flat_map, insert}
use Rattle.as_base.specs.declared.fragment.Cell.{Cell}
use Rattle.group_table.specs.Cells.{add_in, sums, count_at}
use Rattle.group_table.specs.Steps.{dropped}
use Rattle.group_table.specs.Tables.{cells_at}
use Rattle.group_table.specs.Totals.{total}
use Rattle.shared_agg.specs.declared.slices.Slice.{Slice}
use Rattle.shared_agg.specs.Fill.{IsFed, IsPartlyFed}

-- the slices, and how many records were added to them
pub record Lane : Type 0 where
  pub slices : List Slice
  pub added : ℕ

-- the slices with the count
abbrev pub lane : List Slice → ℕ → Lane
lane slices added = record { slices = slices; added = added }

-- when the slices begin
abbrev pub starts : List Slice → List ℕ
starts slices = map (λ (s : Slice). s.start) slices

-- the cells of a slot in the slice that begins there; none where there is no such slice
abbrev pub cells_from : List Slice → ℕ → ℕ → List Cell
cells_from [] start slot = []
cells_from (s ∷ ss) start slot = if start == s.start then cells_at s.table slot else cells_from ss start slot

-- the epoch of the slice that begins there; `None` where there is no such slice
abbrev pub epoch_from : List Slice → ℕ → Option ℕ
epoch_from [] start = None
epoch_from (s ∷ ss) start = if start == s.start then Some s.epoch else epoch_from ss start

-- how many records the cells of a slot and group count, over all slices
abbrev pub count_in : List Slice → ℕ → ℤ → ℕ
count_in [] slot group = 0
count_in (s ∷ ss) slot group = count_at (cells_at s.table slot) group + count_in ss slot group

-- how many cells all slices have
abbrev pub total_in : List Slice → ℕ
total_in [] = 0
total_in (s ∷ ss) = total (cells_at s.table) + total_in ss

-- how many slices begin before the time
abbrev pub begun_before : ℕ → List Slice → ℕ
begun_before t slices = count_by (λ (s : Slice). nat_lt s.start t) slices

-- the number is from the first on, and below the second
abbrev pub is_between : ℕ → ℕ → ℕ → Bool
is_between from to n = nat_le from n && nat_lt n to

-- what the cells of a slot add up to in the slices that begin in a range
abbrev pub sums_between : ℕ → ℕ → ℕ → List Slice → List Cell
sums_between from to slot slices = sums (flat_map (λ start. cells_from slices start slot) (filter (is_between from to) (starts slices)))

-- the cells of a slot in the slices from one place on and before another
abbrev pub cells_within : ℕ → ℕ → ℕ → List Slice → List Cell
cells_within first past slot slices = flat_map (λ (s : Slice). cells_at s.table slot) (take (past - first) (drop first slices))

-- the time is before another; any time is, where there is none
abbrev pub ComesBefore : ℕ → Option ℕ → Type 0
ComesBefore t None = Unit {0}
ComesBefore t (Some c) = t < c

-- each slice begins before those behind it
abbrev pub StartsRise : List Slice → Type 0
StartsRise [] = Unit {0}
StartsRise (s ∷ ss) = AllByRecursion (λ (later : Slice). s.start < later.start) ss × StartsRise ss

-- each number is below those behind it
abbrev pub AreRising : List ℕ → Type 0
AreRising [] = Unit {0}
AreRising (n ∷ ns) = AllByRecursion (λ later. n < later) ns × AreRising ns

-- the slice has a cell
abbrev pub HasCell : Slice → Type 0
HasCell s = 0 < total (cells_at s.table)

-- The starts rise, each slice has a cell, and no group has more records in all of them than were added.
pub record IsLane (lane : Lane) : Type 0 where
  pub rise : StartsRise lane.slices
  pub filled : AllByRecursion HasCell lane.slices
  pub counted : (slot : ℕ) (group : ℤ) → count_in lane.slices slot group ≤ lane.added
  pub few : lane.added ≤ 2 ^ 62

-- the slice at this place became another, as the relation says, and all others are as they were
abbrev pub IsChangedAt : ℕ → (Slice → Slice → Type 0) → List Slice → List Slice → Type 0
IsChangedAt zero R (x ∷ xs) (y ∷ ys) = R x y × (ys ≡ xs)
IsChangedAt (suc k) R (x ∷ xs) (y ∷ ys) = (y ≡ x) × IsChangedAt k R xs ys
IsChangedAt k R _ _ = ⊥

-- a slice with its start and epoch, to whose cells of some slots some were added
pub record HasGrown (adds : ℕ → List Cell) (x y : Slice) : Type 0 where
  pub start : y.start ≡ x.start
  pub epoch : y.epoch ≡ x.epoch
  pub partly : IsPartlyFed x.table y.table adds

-- the same, for all slots
pub record HasGot (adds : ℕ → List Cell) (x y : Slice) : Type 0 where
  pub start : y.start ≡ x.start
  pub epoch : y.epoch ≡ x.epoch
  pub fed : IsFed x.table y.table adds

-- a slice with its start and epoch, whose cells of some slots are gone
pub record HasLost (slots : List Bool) (x y : Slice) : Type 0 where
  pub start : y.start ≡ x.start
  pub epoch : y.epoch ≡ x.epoch
  pub lost : (slot : ℕ) → cells_at y.table slot ≡ dropped (cells_at x.table) slots slot

-- A slice that begins there, with its epoch, and with these cells alone.
pub record IsSlice (start epoch : ℕ) (adds : ℕ → List Cell) (s : Slice) : Type 0 where
  pub start_is : s.start ≡ start
  pub epoch_is : s.epoch ≡ epoch
  pub cells : (slot : ℕ) → cells_at s.table slot ≡ sums (adds slot)

-- The slice stands before the one at the place now; if it has no cell, nothing changed.
pub record IsPutIn (place : ℕ) (s : Slice) (old new : List Slice) : Type 0 where
  pub none : total (cells_at s.table) ≡ 0 → new ≡ old
  pub some : 0 < total (cells_at s.table) → new ≡ insert old place s

-- all but the slice at the place
abbrev pub without : ℕ → List Slice → List Slice
without place slices = take place slices ++ drop (suc place) slices

-- The slice at the place is gone if it has no cell; nothing else changed.
pub record IsLetGo (place : ℕ) (old new : List Slice) : Type 0 where
  pub gone : (d : Slice) → total (cells_at (slice_index_or old place d).table) ≡ 0 → new ≡ without place old
  pub stays : (d : Slice) → 0 < total (cells_at (slice_index_or old place d).table) → new ≡ old

-- The cells of some slots are gone from the slice that begins there; all else is as it was.
pub record AreDropped (start : ℕ) (slots : List Bool) (old new : List Slice) : Type 0 where
  pub cells : (c slot : ℕ) → slot < 512 →
      cells_from new c slot ≡ (if (c == start) && slice_index_or slots slot false then [] else cells_from old c slot)
  pub epochs : (c : ℕ) → (c == start) ≡ false → epoch_from new c ≡ epoch_from old c
  pub kept : (e : ℕ) → epoch_from new start ≡ Some e → epoch_from old start ≡ Some e

-- The cells of every slice and slot are those before, with some more in the slice that begins there.
abbrev pub AreFed : ℕ → (ℕ → List Cell) → List Slice → List Slice → Type 0
AreFed start adds old new = (c slot : ℕ) → slot < 512 →
    cells_from new c slot ≡ fold add_in (cells_from old c slot) (if c == start then adds slot else [])

-- The same, for some slots alone.
pub record ArePartlyFed (start : ℕ) (adds : ℕ → List Cell) (old new : List Slice) : Type 0 where
  pub which : ℕ → Bool
  pub fed : AreFed start (λ slot. if which slot then adds slot else []) old new

-- Epochs stay: that of a slice which was there, and none is new but that of the slice that begins there.
pub record EpochsStay (start epoch : ℕ) (old new : List Slice) : Type 0 where
  pub kept : (c e : ℕ) → epoch_from old c ≡ Some e → epoch_from new c ≡ Some e
  pub made : (c e : ℕ) → epoch_from old c ≡ None → epoch_from new c ≡ Some e → (c ≡ start) × (e ≡ epoch)

-- All slices but that which begins there are as they were, and no slice came or went.
pub record OthersStay (start : ℕ) (old new : List Slice) : Type 0 where
  pub cells : (c slot : ℕ) → (c == start) ≡ false → cells_from new c slot ≡ cells_from old c slot
  pub epochs : (c : ℕ) → epoch_from new c ≡ epoch_from old c
