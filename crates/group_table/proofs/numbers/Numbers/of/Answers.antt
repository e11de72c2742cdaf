use Rattle.std.proofs.Common.{subst}
use Rattle.group_table.specs.Grids.{Numbering, AreGiven}
use Rattle.group_table.proofs.numbers.Numbers.of.Goals as goal

pub returns-in-Some-clause-apart : goal.returns-in-Some-clause-apart
returns-in-Some-clause-apart c = subst (λ (n : Numbering). AreGiven n) c.self.view_is c.self.invariant.apart

pub returns-in-None-clause-apart : goal.returns-in-None-clause-apart
returns-in-None-clause-apart c = subst (λ (n : Numbering). AreGiven n) c.self.view_is c.self.invariant.apart
