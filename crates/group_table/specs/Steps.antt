-- What calls do to the cells of the slots.
use Rattle.std.specs.Prelude.{◌≡◌, ℕ, ℤ, ◌==◌, ◌<◌, ◌++◌, true, false, if◌then◌else◌, Bool, List, [], fold, filter, take, slice_index_or}
use Rattle.std.specs.List.{AllByRecursion}
use Rattle.as_base.specs.declared.fragment.Cell.{Cell}
use Rattle.group_table.specs.Cells.{add_in, sums, IsSound}

-- the cells of a slot once a cell was added to one slot
abbrev pub added : (ℕ → List Cell) → ℕ → Cell → ℕ → List Cell
added cells slot c s = if s == slot then add_in (cells s) c else cells s

-- the cells of a slot once some cells were added to one slot
abbrev pub merged : (ℕ → List Cell) → ℕ → List Cell → ℕ → List Cell
merged cells slot more s = if s == slot then fold add_in (cells s) more else cells s

-- the cells of a slot once some slots were dropped
abbrev pub dropped : (ℕ → List Cell) → List Bool → ℕ → List Cell
dropped cells slots s = if slice_index_or slots s false then [] else cells s

-- the cells of a slot once a cell was added to each of some slots
abbrev pub added_each : (ℕ → List Cell) → List Bool → Cell → ℕ → List Cell
added_each cells slots c s = if slice_index_or slots s false then add_in (cells s) c else cells s

-- To some of the slots of the set the cell was added; all other cells are as they were.
pub record HaveSome (old new : ℕ → List Cell) (slots : List Bool) (c : Cell) : Type 0 where
  pub which : List Bool
  pub among : (s : ℕ) → slice_index_or which s false ≡ true → slice_index_or slots s false ≡ true
  pub cells : (s : ℕ) → new s ≡ added_each old which c s

-- Behind a list stand more cells, which add up to these.
pub record AreAppended (old new more : List Cell) : Type 0 where
  pub behind : List Cell
  pub items : new ≡ old ++ behind
  pub sums_are : sums behind ≡ more
  pub sound : AllByRecursion IsSound behind
  pub some : AllByRecursion (λ (c : Cell). 0 < c.count) behind

-- The cells of some of the groups were added, and no others.
pub record IsPartlyMerged (old new more : List Cell) : Type 0 where
  pub which : ℤ → Bool
  pub cells : new ≡ fold add_in old (filter (λ (c : Cell). which c.group) more)

-- The first few of these cells were added to one slot; all other cells are as they were.
pub record HaveFirst (old new : ℕ → List Cell) (slot : ℕ) (more : List Cell) : Type 0 where
  pub many : ℕ
  pub cells : (s : ℕ) → new s ≡ merged old slot (take many more) s
