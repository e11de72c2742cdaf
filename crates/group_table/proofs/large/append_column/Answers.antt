use Rattle.std.proofs.Common.{◌<◌, List, ◌++◌, ◌∙◌, length, get_or, take, sym, ap, append_assoc, arith}
use Rattle.as_base.specs.declared.fragment.Cell.{Cell}
use Rattle.group_table.specs.Cells.{blank}
use Rattle.group_table.specs.Grids.{shown, all_shown, column}
use Rattle.group_table.proofs.GridLaws.{shown-next}
use Rattle.group_table.proofs.large.append_column.Goals as goal

pub loop-row-preserved : goal.loop-row-preserved
loop-row-preserved c =
    let rows = c.args.rows.now in
    let i = c.loop-row.row-index in
    let n = c.args.number in
    let old = c.args.cells.now.items in
    let row = c.row-item.result in
    let low : i < length rows = omega (arith, c.loop-row-test.true) in
    c.in_ok-append_shown.ensures
    ∙ ap (λ (d : Cell). c.loop-row.cells.items ++ shown d) (c.at.ensures ∙ ap (λ (r : List Cell). get_or r n blank) c.row-item.is)
    ∙ ap (λ l. l ++ shown (get_or (get_or rows i row) n blank)) c.loop-row.invariant
    ∙ append_assoc old (all_shown (column n (take i rows))) (shown (get_or (get_or rows i row) n blank))
    ∙ ap (λ l. old ++ l) (sym (shown-next n rows i row low))
