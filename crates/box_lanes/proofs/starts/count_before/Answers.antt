use Rattle.std.proofs.Common.{int_lt, rules}
use Rattle.std.proofs.lemmas.List.Sorted.{IsPartitionPoint-from_clause}
use Rattle.box_lanes.specs.declared.start.Start.{Start}
use Rattle.box_lanes.proofs.IndexLaws.{parted-before}
use Rattle.box_lanes.proofs.starts.count_before.Goals as goal

pub returns-clause-place : goal.returns-clause-place
returns-clause-place c =
    IsPartitionPoint-from_clause (λ (s : Start). int_lt s.low c.args.value) _ _ c.partition_point.ensures.partitioned (parted-before c.args.value c.args.starts.now c.requires) (λ a r f k. search rules)
