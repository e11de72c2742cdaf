use Rattle.std.proofs.Common.{◌≡◌, ℕ, take}
use Rattle.group_table.specs.Cells.{sums}
use Rattle.group_table.specs.Held.{held}
use Rattle.group_table.specs.Grids.{cells_of}
use Rattle.group_table.proofs.table.in_columns.Given as goal

abbrev pub invariant-loop-entry : goal.invariant-loop-entry
invariant-loop-entry l = (s : ℕ) → sums (cells_of l.large s) ≡ sums (held (take l.entry-index l.entries) s)
