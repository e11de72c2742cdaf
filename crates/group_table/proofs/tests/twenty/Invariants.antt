use Rattle.std.proofs.Common.{◌≤◌, ◌*◌, ◌-◌, ℕ, ℤ}
use Rattle.group_table.specs.Cells.{count_at}
use Rattle.group_table.specs.Tables.{cells_at}
use Rattle.group_table.proofs.tests.twenty.Given as goal

abbrev pub invariant-loop-left : goal.invariant-loop-left
invariant-loop-left l = record {
  within : l.left ≤ 20;
  few : (s : ℕ) (g : ℤ) → count_at (cells_at l.table s) g ≤ 3 * (20 - l.left);
}

abbrev pub decreases-loop-left : goal.decreases-loop-left
decreases-loop-left l = l.left
