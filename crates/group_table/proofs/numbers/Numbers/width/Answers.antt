use Rattle.std.proofs.Common.{◌≤◌, subst}
use Rattle.group_table.specs.Grids.{Numbering}
use Rattle.group_table.proofs.NumberLaws.{width-most}
use Rattle.group_table.proofs.numbers.Numbers.width.Goals as goal

pub returns-clause-most : goal.returns-clause-most
returns-clause-most c = subst (λ (n : Numbering). n.width ≤ 512) c.self.view_is (width-most c.self.inside.numbers.items c.self.inside.known c.self.inside.width c.self.invariant)
