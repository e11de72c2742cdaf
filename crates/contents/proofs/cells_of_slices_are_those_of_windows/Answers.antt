use Rattle.contents.proofs.CellLaws.{window-cells}
use Rattle.contents.proofs.RowLaws.{rows-of-cells}
use Rattle.contents.proofs.StoreLaws.{covered}
use Rattle.contents.proofs.WholeLaws.{moves-all}
use Rattle.contents.proofs.cells_of_slices_are_those_of_windows.Goals as goal

pub returns-clause-sums : goal.returns-clause-sums
returns-clause-sums c p h k starts i among adds unpassed once have =
    window-cells p h k among i.apart (moves-all p i.holders h among).0 adds unpassed starts once (covered p h.query.plan.left h.slot starts have)

pub returns-clause-rows : goal.returns-clause-rows
returns-clause-rows c = rows-of-cells
