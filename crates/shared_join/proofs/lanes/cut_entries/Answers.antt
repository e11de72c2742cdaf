use Rattle.std.proofs.Common.{length, ap, arith}
use Rattle.shared_join.specs.Lanes.{Lane}
use Rattle.shared_join.proofs.LaneLaws.{length-cut_rows, cut-more}
use Rattle.shared_join.proofs.lanes.cut_entries.Goals as goal

pub cut_in_row-requires : goal.cut_in_row-requires
cut_in_row-requires c =
    let same = ap (λ (l : Lane). length l) c.loop-place.invariant in
    let long = length-cut_rows c.args.second c.loop-place.place c.args.lane.now in
    omega (arith, same, long, c.loop-place-test.true, c.len-place-end.ensures.len)

pub loop-place-preserved : goal.loop-place-preserved
loop-place-preserved c =
    cut-more c.args.second c.loop-place.place c.args.lane.now c.loop-place.lane c.cut_in_row.new.lane
    (omega (arith, c.loop-place-test.true, c.len-place-end.ensures.len)) c.loop-place.invariant c.cut_in_row.ensures
