use Rattle.std.proofs.Common.{◌≡◌, List, subst, arith}
use Rattle.group_table.specs.declared.small.Entry.{Entry}
use Rattle.group_table.specs.Cells.{sums}
use Rattle.group_table.specs.Held.{held}
use Rattle.group_table.specs.Totals.{total}
use Rattle.group_table.proofs.TotalLaws.{total-held}
use Rattle.group_table.proofs.small.Small.len.Goals as goal

pub returns-clause-total : goal.returns-clause-total
returns-clause-total c =
    let es = c.self.inside.entries.items in
    let a = c.len.ensures in
    let long = c.self.inside.entries.ok.0 in
    let all = total-held es c.self.invariant in
    let is : c.len.result ≡ total (λ s. sums (held es s)) = omega (arith, a, long, all) in
    subst (λ (es : List Entry). c.len.result ≡ total (λ s. sums (held es s))) c.self.view_is is
