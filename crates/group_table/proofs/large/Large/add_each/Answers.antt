use Rattle.std.proofs.Common.{◌∙◌, ap}
use Rattle.std.proofs.lemmas.Result.{on_err_weaker}
use Rattle.group_table.specs.Cells.{sums}
use Rattle.group_table.specs.Grids.{Grid, cells_of}
use Rattle.group_table.proofs.ListLaws.{on-err}
use Rattle.group_table.proofs.EachLaws.{each-none}
use Rattle.group_table.proofs.large.Large.add_each.Goals as goal

pub returns-in_err-widen-clause-err : goal.returns-in_err-widen-clause-err
returns-in_err-widen-clause-err c = on-err c.from_residual-in_err-widen.result (each-none _ _ _ _ (λ s.
    ap sums (c.in_err-widen.ensures.same s ∙ c.in_ok-row.ensures.same s ∙ c.give_numbers.ensures.same s)))

pub returns-clause-err : goal.returns-clause-err
returns-clause-err c = on_err_weaker c.add_in_row.result (λ h. each-none _ _ _ _ (λ s.
    ap (λ (grid : Grid). sums (cells_of grid s)) h ∙ ap sums (c.in_ok-widen.ensures.same s ∙ c.in_ok-row.ensures.same s ∙ c.give_numbers.ensures.same s))) c.add_in_row.ensures.err
