use Rattle.std.proofs.Common.{◌≤◌, ◌+◌, ◌^◌, ◌∙◌, Bool, List, cond, set, true, sym, ap, subst}
use Rattle.std.proofs.lemmas.Bool.{eqb-true}
use Rattle.std.proofs.lemmas.Result.{on_ok_weaker}
use Rattle.group_table.specs.Cells.{add_in, sums, count_at}
use Rattle.group_table.specs.Grids.{cells_of}
use Rattle.group_table.proofs.EachLaws.{only-one}
use Rattle.group_table.proofs.large.Large.add.Goals as goal

pub add_each-requires-clause-few : goal.add_each-requires-clause-few
add_each-requires-clause-few c = λ s on.
    let is = c.with.ensures.value ∙ ap (λ (l : List Bool). set l c.args.slot true) c.none.ensures in
    subst (λ s. count_at (sums (cells_of c.args.self.now s)) c.args.cell.group + c.args.cell.count ≤ 2 ^ 62)
    (sym (eqb-true s c.args.slot (sym (only-one c.with.result 512 c.args.slot s is c.requires.slot) ∙ on))) c.requires.few

pub returns-clause-ok : goal.returns-clause-ok
returns-clause-ok c = on_ok_weaker c.add_each.result (λ h s.
    let is = c.with.ensures.value ∙ ap (λ (l : List Bool). set l c.args.slot true) c.none.ensures in
    h s ∙ ap (λ t. cond t (add_in (sums (cells_of c.args.self.now s)) c.args.cell) (sums (cells_of c.args.self.now s))) (only-one c.with.result 512 c.args.slot s is c.requires.slot))
    c.add_each.ensures.ok
