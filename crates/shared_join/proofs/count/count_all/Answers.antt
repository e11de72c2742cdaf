use Rattle.std.proofs.Common.{◌+◌, ◌-◌, ◌^◌, min, sym, ap, ◌∙◌}
use Rattle.shared_join.specs.Names.{lane_pairs, IsInOrder}
use Rattle.shared_join.proofs.NameLaws.{counted-more, min-twice, all-more}
use Rattle.shared_join.proofs.count.count_all.Goals as goal

pub loop-lane-preserved : goal.loop-lane-preserved
loop-lane-preserved c =
    let lanes = c.args.lanes.now in
    let k = c.loop-lane.lane-index in
    let x = c.lane-item.result in
    record {
      number =
          counted-more lane_pairs lanes k x (2 ^ 64 - 1) c.loop-lane.count c.saturating_add-count.result c.loop-lane-test.true (sym c.lane-item.is) c.loop-lane.invariant.number
          (c.saturating_add-count.ensures ∙ ap (λ n. min (c.loop-lane.count + n) (2 ^ 64 - 1)) c.count_lane.ensures.number ∙ min-twice c.loop-lane.count (lane_pairs x) (2 ^ 64 - 1));
      order = all-more IsInOrder lanes k x c.loop-lane-test.true (sym c.lane-item.is) c.loop-lane.invariant.order c.count_lane.ensures.order;
    }
