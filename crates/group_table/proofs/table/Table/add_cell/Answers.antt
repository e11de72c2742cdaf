use Rattle.std.proofs.Common.{◌==◌, cond, ap, ◌∙◌, arith}
use Rattle.std.proofs.lemmas.Result.{on_ok_weaker, on_err_weaker}
use Rattle.group_table.specs.Cells.{add_in, count_at}
use Rattle.group_table.specs.Tables.{cells_at}
use Rattle.group_table.proofs.table.Table.add_cell.Goals as goal

pub add_to-requires-clause-few : goal.add_to-requires-clause-few
unfolding cells_at
add_to-requires-clause-few c = let e = ap (λ l. count_at l c.args.cell.group) (c.grow.ensures c.args.slot) in let few = c.requires.few in omega (arith, e, few)

pub returns-clause-ok : goal.returns-clause-ok
unfolding cells_at
returns-clause-ok c = on_ok_weaker c.add_to.result (λ h s. h s ∙ ap (λ l. cond (s == c.args.slot) (add_in l c.args.cell) l) (c.grow.ensures s)) c.add_to.ensures.ok

pub returns-clause-err : goal.returns-clause-err
unfolding cells_at
returns-clause-err c = on_err_weaker c.add_to.result (λ h s. h s ∙ c.grow.ensures s) c.add_to.ensures.err
