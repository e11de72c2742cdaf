use Rattle.std.proofs.Common.{◌≡◌, ◌≤◌, ◌++◌, length, take, drop}
use Rattle.group_table.specs.Grids.{all_shown, column, without}
use Rattle.group_table.proofs.large.blank_column.Given as goal

abbrev pub invariant-loop-row : goal.invariant-loop-row
invariant-loop-row l = record {
  fits : l.count ≤ l.row-index;
  so_far : l.count ≡ length (all_shown (column l.number (take l.row-index l.initial.rows)));
  rows : l.rows ≡ without l.number (take l.row-index l.initial.rows) ++ drop l.row-index l.initial.rows;
}
