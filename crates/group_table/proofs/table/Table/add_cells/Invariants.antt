use Rattle.std.proofs.Common.{◌≡◌, ℕ, take}
use Rattle.group_table.specs.Steps.{merged}
use Rattle.group_table.specs.Tables.{cells_at}
use Rattle.group_table.proofs.table.Table.add_cells.Given as goal

abbrev pub invariant-loop-cell : goal.invariant-loop-cell
invariant-loop-cell l = (s : ℕ) → cells_at l.self s ≡ merged (cells_at l.initial.self) l.slot (take l.cell-index l.cells) s
