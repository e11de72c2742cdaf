use Rattle.std.proofs.Common.{List, subst}
use Rattle.group_table.specs.declared.small.Entry.{Entry}
use Rattle.group_table.specs.Cells.{AreCells}
use Rattle.group_table.specs.Held.{held}
use Rattle.group_table.proofs.HeldLaws.{entries-cells}
use Rattle.group_table.proofs.small.Small.append.Goals as goal

pub returns-clause-cells : goal.returns-clause-cells
returns-clause-cells c = subst (λ (es : List Entry). AreCells (held es c.args.slot)) c.self.view_is (entries-cells c.self.inside.entries.items c.args.slot c.self.invariant)
