use Rattle.std.proofs.Common.{◌-◌, ◌+◌, ◌^◌, min, ap, ◌∙◌, arith}
use Rattle.group_table.specs.Tables.{cells_at}
use Rattle.group_table.specs.Totals.{total}
use Rattle.shared_agg.specs.declared.slices.Slice.{Slice}
use Rattle.shared_agg.proofs.WindowLaws.{counted-more}
use Rattle.shared_agg.proofs.slices.count_cells.Goals as goal

pub loop-place-preserved : goal.loop-place-preserved
loop-place-preserved c =
    c.saturating_add-count.ensures
    ∙ ap (λ n. min (c.loop-place.count + n) (2 ^ 64 - 1)) (c.len.ensures ∙ ap (λ (s : Slice). total (cells_at s.table)) c.index.ensures)
    ∙ counted-more c.args.slices.now.items c.loop-place.place (2 ^ 64 - 1) c.loop-place.count c.index.result.now
    (omega (arith, c.loop-place-test.true, c.len-place-end.ensures, c.args.slices.now.ok.0)) c.loop-place.invariant
