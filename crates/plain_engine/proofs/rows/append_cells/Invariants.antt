use Rattle.std.proofs.Common.{◌≡◌, ◌++◌, map, take}
use Rattle.plain_engine.specs.Walk.{row_of, text_of_rows}
use Rattle.plain_engine.proofs.rows.append_cells.Given as goal

abbrev pub invariant-loop-cell : goal.invariant-loop-cell
invariant-loop-cell l = l.out.items ≡ l.initial.out.items ++ text_of_rows (map (row_of l.plan l.k) (take l.cell-index l.cells))
