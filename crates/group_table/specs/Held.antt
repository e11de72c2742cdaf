-- Cells held in one list, each with its slot.
use Rattle.std.specs.Prelude.{ℕ, ℤ, ◌<◌, ◌≤◌, ◌^◌, ◌==◌, ◌&&◌, ◌||◌, not, nat_le, false, slice_set, slice_index_or, if◌then◌else◌, Bool, List, [], ◌∷◌}
use Rattle.std.specs.Ordering.{int_eq}
use Rattle.std.specs.List.{AllByRecursion}
use Rattle.as_base.specs.declared.fragment.Cell.{Cell}
use Rattle.group_table.specs.declared.small.Entry.{Entry}
use Rattle.group_table.specs.Cells.{blank, plus, count_at, times, IsSound}

-- the entry is of this slot and group
abbrev pub is_of : ℕ → ℤ → Entry → Bool
is_of slot group e = e.slot == slot && int_eq e.cell.group group

-- the cells of a slot, in the order held
abbrev pub held : List Entry → ℕ → List Cell
held [] slot = []
held (e ∷ es) slot = if e.slot == slot then e.cell ∷ held es slot else held es slot

-- an entry of no records
abbrev pub none : Entry
none = record { slot = 0; cell = blank }

-- the entries with a cell added to that in a place
abbrev pub put_at : ℕ → Cell → List Entry → List Entry
put_at place c es = slice_set es place (let e = slice_index_or es place none in record { slot = e.slot; cell = plus e.cell c })

-- the slot is none of these
abbrev pub is_kept : List Bool → ℕ → Bool
is_kept slots slot = nat_le 512 slot || not (slice_index_or slots slot false)

-- the entries with one cell more: it is added to that of its slot and group, or else comes last
abbrev pub put : ℕ → Cell → List Entry → List Entry
put slot c [] = record { slot = slot; cell = c } ∷ []
put slot c (e ∷ es) = if is_of slot c.group e then record { slot = e.slot; cell = plus e.cell c } ∷ es else e ∷ put slot c es

-- a cell of some records, of a slot that there is
pub record IsEntry (e : Entry) : Type 0 where
  pub slot : e.slot < 512
  pub some : 0 < e.cell.count
  pub sound : IsSound e.cell

-- no slot has two cells of one group, and no cell counts more than 2^62 records
pub record AreEntries (es : List Entry) : Type 0 where
  pub each : AllByRecursion IsEntry es
  pub once : (slot : ℕ) (group : ℤ) → times group (held es slot) ≤ 1
  pub few : (slot : ℕ) (group : ℤ) → count_at (held es slot) group ≤ 2 ^ 62
