use Rattle.std.proofs.Common.{◌≡◌, ◌≤◌, List, sym, ap, subst, refl, ◌∙◌, arith}
use Rattle.std.proofs.lemmas.Result.{on_ok_weaker, on_err_weaker}
use Rattle.as_base.specs.declared.fragment.Cell.{Cell}
use Rattle.group_table.specs.Cells.{sums, count_at, times}
use Rattle.group_table.specs.Steps.{merged}
use Rattle.group_table.specs.Tables.{held_at, cells_at}
use Rattle.group_table.proofs.ListLaws.{on-err}
use Rattle.group_table.proofs.SumLaws.{count-sums}
use Rattle.group_table.proofs.MergeLaws.{merged-sums}
use Rattle.group_table.proofs.PartLaws.{partly, partly-none}
use Rattle.group_table.proofs.table.Table.merge_slot.Goals as goal

pub returns-in_err-cells-clause-err : goal.returns-in_err-cells-clause-err
returns-in_err-cells-clause-err c = on-err c.from_residual.result (partly-none _ _ _ refl)

pub add_cells-requires-clause-few : goal.add_cells-requires-clause-few
unfolding cells_at
add_cells-requires-clause-few c = λ g.
    let e = ap (λ l. count_at l g) (c.as_slice.ensures.value ∙ c.in_ok-cells.ensures.value) in
    let k = count-sums g (held_at c.args.from.now.form c.args.slot) in
    let few = c.requires.few g in
    omega (arith, e, k, few)

pub returns-clause-ok : goal.returns-clause-ok
unfolding cells_at
returns-clause-ok c = on_ok_weaker c.add_cells.result (λ h s.
    h s
    ∙ ap (λ (l : List Cell). merged (cells_at c.args.self.now) c.args.slot l s) (c.as_slice.ensures.value ∙ c.in_ok-cells.ensures.value)
    ∙ merged-sums (cells_at c.args.self.now) c.args.slot s (held_at c.args.from.now.form c.args.slot)) c.add_cells.ensures.ok

pub returns-clause-err : goal.returns-clause-err
unfolding cells_at
returns-clause-err c =
    let e : c.as_slice.result.now ≡ held_at c.args.from.now.form c.args.slot = c.as_slice.ensures.value ∙ c.in_ok-cells.ensures.value in
    on_err_weaker c.add_cells.result (λ h. partly (cells_at c.args.self.now) (cells_at c.add_cells.new.self) c.args.slot c.as_slice.result.now (cells_at c.args.from.now c.args.slot)
    (λ g. subst (λ l. times g l ≤ 1) (sym e) (c.in_ok-cells.ensures.cells.once g)) (ap sums (sym e)) h) c.add_cells.ensures.err
