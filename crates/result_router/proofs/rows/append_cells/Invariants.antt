use Rattle.std.proofs.Common.{◌≡◌, ◌++◌, map, take}
use Rattle.std.specs.List.{flat_map}
use Rattle.row_text.specs.RowText.{row_text}
use Rattle.result_router.specs.Rows.{cell_row}
use Rattle.result_router.proofs.rows.append_cells.Given as goal

abbrev pub invariant-loop-cell : goal.invariant-loop-cell
invariant-loop-cell l = l.out.items ≡ l.initial.out.items ++ flat_map row_text (map (cell_row l.plan l.start) (take l.cell-index l.cells))
