use Rattle.std.proofs.Common.{◌≤◌}
use Rattle.as_base.specs.declared.stream.StreamId.TheVariants.{A}
use Rattle.shared_agg.specs.Aggs.{records_of}
use Rattle.bench.proofs.sums.by_aggs.Given as goal

abbrev pub invariant-loop-time : goal.invariant-loop-time
invariant-loop-time l = records_of l.aggs A ≤ l.time
