use Rattle.std.proofs.Common.{◌≡◌, to_z, of_z, arith}
use Rattle.std.specs.Int.{w128}
use Rattle.std.proofs.lemmas.Int.{ints, to_z-of_z}
use Rattle.row_text.proofs.RowLaws.{no_window, no_group, no_value, total_taken}
use Rattle.row_text.proofs.reading.next_total.Goals as goal

pub returns-in_err-start : goal.returns-in_err-start
returns-in_err-start c = rw c.from_residual.ensures (no_window c.args.plan.now _ _ _ c.requires c.in_err-start.ensures)

pub returns-in_err-group : goal.returns-in_err-group
returns-in_err-group c = rw c.from_residual-in_err-group.ensures (no_group c.args.plan.now c.in_ok-start.start c.in_ok-start.end _ _ _ _ c.requires c.in_ok-start.ensures c.in_err-group.ensures)

pub returns-in_err-value : goal.returns-in_err-value
returns-in_err-value c =
    rw c.from_residual-in_err-value.ensures
    (no_value c.args.plan.now c.in_ok-start.start c.in_ok-start.end c.in_ok-group.group _ _ _ _ _ c.requires c.in_ok-start.ensures c.in_ok-group.ensures c.in_err-value.ensures)

pub returns : goal.returns
returns c =
    let value : to_z w128 (of_z w128 c.in_ok-value.value) ≡ c.in_ok-value.value = grind (arith, ints, to_z-of_z) in
    rw value
    (total_taken c.args.plan.now c.in_ok-start.start c.in_ok-start.end c.in_ok-group.group c.in_ok-value.value _ _ _ _ c.requires c.in_ok-start.ensures c.in_ok-group.ensures c.in_ok-value.ensures)
