use Rattle.std.proofs.Common.{◌<◌, length, get_or, take, arith}
use Rattle.group_table.specs.Cells.{blank}
use Rattle.group_table.specs.Tables.{cells_at}
use Rattle.group_table.proofs.MergeLaws.{prefix-part, merging-few}
use Rattle.group_table.proofs.table.Table.add_cells.Goals as goal

pub add_cell-requires-clause-few : goal.add_cell-requires-clause-few
add_cell-requires-clause-few c =
    let cs = c.args.cells.now in
    let i = c.loop-cell.cell-index in
    let slot = c.args.slot in
    let low : i < length cs = omega (arith, c.loop-cell-test.true) in
    merging-few (cells_at c.args.self.now) (cells_at c.loop-cell.self) slot (take i cs) cs (get_or cs i blank) (c.loop-cell.invariant slot) (prefix-part cs i blank low) (c.requires.few (get_or cs i blank).group)
