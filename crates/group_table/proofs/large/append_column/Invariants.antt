use Rattle.std.proofs.Common.{◌≡◌, ◌++◌, take}
use Rattle.group_table.specs.Grids.{all_shown, column}
use Rattle.group_table.proofs.large.append_column.Given as goal

abbrev pub invariant-loop-row : goal.invariant-loop-row
invariant-loop-row l = l.cells.items ≡ l.initial.cells.items ++ all_shown (column l.number (take l.row-index l.rows))
