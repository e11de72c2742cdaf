use Rattle.std.proofs.Common.{◌≡◌, ◌+◌, ◌<◌, ◌-◌, ◌^◌, min, length, get_or, ap, ◌∙◌, arith}
use Rattle.by_start.specs.declared.Begun.{Begun}
use Rattle.by_start.specs.Order.{begun, start_at, StartsRise}
use Rattle.by_start.proofs.ListLaws.{get_or-found}
use Rattle.shared_join.specs.Lanes.{Row}
use Rattle.shared_join.specs.Names.{row_pairs}
use Rattle.shared_join.proofs.NameLaws.{counted-more, min-twice, all-more}
use Rattle.shared_join.proofs.count.count_lane.Goals as goal

pub loop-place-preserved : goal.loop-place-preserved
loop-place-preserved c =
    let lane = c.args.lane.now in
    let k = c.loop-place.place in
    let x : Begun Row = begun (start_at k lane) c.thing.result.now in
    let within : k < length lane = omega (arith, c.loop-place-test.true, c.len-place-end.ensures.len) in
    let at : get_or lane k x ≡ x = get_or-found k lane c.thing.result.now x c.thing.ensures in
    record {
      number =
          counted-more (λ (r : Begun Row). row_pairs r.thing) lane k x (2 ^ 64 - 1) c.loop-place.count c.saturating_add-count.result within at c.loop-place.invariant.number
          (c.saturating_add-count.ensures ∙ ap (λ n. min (c.loop-place.count + n) (2 ^ 64 - 1)) c.count_row.ensures.number ∙ min-twice c.loop-place.count (row_pairs c.thing.result.now) (2 ^ 64 - 1));
      rows = all-more (λ (r : Begun Row). StartsRise r.thing) lane k x within at c.loop-place.invariant.rows c.count_row.ensures.rise;
    }
