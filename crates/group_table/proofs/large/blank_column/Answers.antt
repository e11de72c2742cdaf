use Rattle.std.proofs.Common.{◌≡◌, ◌<◌, ◌∙◌, List, length, get_or, set, take, ap, length-append, arith}
use Rattle.as_base.specs.declared.fragment.Cell.{Cell}
use Rattle.group_table.specs.Cells.{blank}
use Rattle.group_table.specs.Grids.{shown, all_shown, column}
use Rattle.group_table.proofs.GridLaws.{shown-next, shown-most, still-at, blanked-next}
use Rattle.group_table.proofs.large.blank_column.Goals as goal

pub loop-row-preserved : goal.loop-row-preserved
loop-row-preserved c =
    let rows = c.args.rows.now in
    let i = c.loop-row.row-index in
    let n = c.args.number in
    let row = c.row-item.result in
    let low : i < length rows = omega (arith, c.loop-row-test.true) in
    let same : get_or c.loop-row.rows i row ≡ get_or rows i row = ap (λ (l : List (List Cell)). get_or l i row) c.loop-row.invariant.rows ∙ still-at n rows i row low in
    let gone = c.blank_at-count.ensures.count ∙ ap (λ (r : List Cell). length (shown (get_or r n blank))) same in
    let most = shown-most (get_or (get_or rows i row) n blank) in
    let next = ap length (shown-next n rows i row low) in
    let long = length-append (all_shown (column n (take i rows))) (shown (get_or (get_or rows i row) n blank)) in
    let fits = c.loop-row.invariant.fits in
    let so_far = c.loop-row.invariant.so_far in
    record {
      fits = omega (arith, gone, most, fits);
      so_far = omega (arith, gone, next, long, so_far);
      rows = ap (set c.loop-row.rows i) (c.blank_at-count.ensures.value ∙ ap (λ (r : List Cell). set r n blank) same)
          ∙ ap (λ (l : List (List Cell)). set l i (set (get_or rows i row) n blank)) c.loop-row.invariant.rows
          ∙ blanked-next n rows i row low;
    }
