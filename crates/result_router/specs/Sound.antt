-- What is asked of fragments, so that no number grows too large.
use Rattle.std.specs.Prelude.{ℕ, ℤ, ◌+◌, ◌^◌, ◌<◌, ◌≤◌, List}
use Rattle.std.specs.List.{AllByRecursion}
use Rattle.as_base.specs.declared.fragment.Fragment.{Fragment}
use Rattle.group_table.specs.Cells.{IsSound, count_at}
use Rattle.result_router.specs.Rising.{with_key, number_of, start_of}
use Rattle.result_router.specs.Rows.{cells_in, cells_of}

-- 64 bits have room for the window's end, and each cell's sum is one of so many signed 64-bit numbers.
pub record IsSoundFragment (f : Fragment) : Type 0 where
  pub ends : f.start + f.plan.win.size < 2 ^ 64
  pub cells : AllByRecursion IsSound (cells_in f.body)

-- Each fragment is sound, and no group of a window of a query has more than 2^62 records.
pub record AreSound (fs : List Fragment) : Type 0 where
  pub each : AllByRecursion IsSoundFragment fs
  pub few : (n start : ℕ) (group : ℤ) → count_at (cells_of (with_key start_of start (with_key number_of n fs))) group ≤ 2 ^ 62

-- the same of the fragments of one query
pub record AreSoundOfQuery (fs : List Fragment) : Type 0 where
  pub each : AllByRecursion IsSoundFragment fs
  pub few : (start : ℕ) (group : ℤ) → count_at (cells_of (with_key start_of start fs)) group ≤ 2 ^ 62

-- and of those of one window
pub record AreSoundOfWindow (fs : List Fragment) : Type 0 where
  pub each : AllByRecursion IsSoundFragment fs
  pub few : (group : ℤ) → count_at (cells_of fs) group ≤ 2 ^ 62
