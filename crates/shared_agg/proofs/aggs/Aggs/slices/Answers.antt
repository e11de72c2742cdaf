use Rattle.std.proofs.Common.{subst}
use Rattle.shared_agg.specs.Slices.{IsLane}
use Rattle.shared_agg.proofs.SliceLaws.{rise-starts}
use Rattle.shared_agg.proofs.AggLaws.{filled-there}
use Rattle.shared_agg.proofs.aggs.Aggs.slices.Goals as goal

pub returns-clause-rise : goal.returns-clause-rise
returns-clause-rise c = let l = subst IsLane c.lane.ensures c.len.ensures.lane in rise-starts _ l.rise

pub returns-clause-filled : goal.returns-clause-filled
returns-clause-filled c = let l = subst IsLane c.lane.ensures c.len.ensures.lane in filled-there _ l.filled
