use Rattle.std.proofs.Common.{subst}
use Rattle.group_table.specs.Grids.{Numbering, AreGiven}
use Rattle.group_table.proofs.numbers.Numbers.all.Goals as goal

pub returns-clause-apart : goal.returns-clause-apart
returns-clause-apart c = subst (λ (n : Numbering). AreGiven n) c.self.view_is c.self.invariant.apart
