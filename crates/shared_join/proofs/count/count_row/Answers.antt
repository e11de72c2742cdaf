use Rattle.std.proofs.Common.{◌+◌, ◌-◌, ◌^◌, min, List, length, ap, ◌∙◌, arith}
use Rattle.by_start.specs.declared.Begun.{Begun}
use Rattle.by_start.specs.Order.{begun, start_at}
use Rattle.by_start.proofs.ListLaws.{get_or-found}
use Rattle.shared_join.specs.declared.pair.Pair.{Pair}
use Rattle.shared_join.proofs.NameLaws.{counted-more}
use Rattle.shared_join.proofs.count.count_row.Goals as goal

pub loop-place-preserved : goal.loop-place-preserved
loop-place-preserved c =
    let row = c.args.row.now in
    let k = c.loop-place.place in
    let x : Begun (List Pair) = begun (start_at k row) c.thing.result.now in
    counted-more (λ (e : Begun (List Pair)). length e.thing) row k x (2 ^ 64 - 1) c.loop-place.count c.saturating_add-count.result
    (omega (arith, c.loop-place-test.true, c.len-place-end.ensures.len)) (get_or-found k row c.thing.result.now x c.thing.ensures) c.loop-place.invariant
    (c.saturating_add-count.ensures ∙ ap (λ (l : List Pair). min (c.loop-place.count + length l) (2 ^ 64 - 1)) c.as_slice.ensures)
