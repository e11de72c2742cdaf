use Rattle.std.proofs.Common.{ap, arith}
use Rattle.group_table.specs.Cells.{count_at}
use Rattle.group_table.proofs.tests.empty.Goals as goal

pub returns : goal.returns
returns c = λ s g. let e = ap (λ l. count_at l g) (c.new.ensures s) in omega (arith, e)
