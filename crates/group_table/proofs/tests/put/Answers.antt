use Rattle.std.proofs.Common.{ap, arith}
use Rattle.group_table.specs.Cells.{count_at}
use Rattle.group_table.specs.Tables.{cells_at}
use Rattle.group_table.proofs.ListLaws.{on-either}
use Rattle.group_table.proofs.MergeLaws.{count-more}
use Rattle.group_table.proofs.tests.put.Goals as goal

pub returns : goal.returns
returns c = λ s g.
    let few = c.requires.few s g in
    on-either c.add.result c.add.ensures.ok c.add.ensures.err
    (λ h. let a = count-more (cells_at c.args.table.now) (cells_at c.add.new.self) c.args.slot s _ g (h s) in omega (arith, a, few))
    (λ h. let a = ap (λ l. count_at l g) (h s) in omega (arith, a, few))
