use Rattle.std.proofs.Common.{int_le, rules}
use Rattle.std.proofs.lemmas.List.Sorted.{IsPartitionPoint-from_clause}
use Rattle.box_lanes.specs.declared.start.Start.{Start}
use Rattle.box_lanes.specs.Index.{IsUntil}
use Rattle.box_lanes.proofs.IndexLaws.{parted-until, some_until, last_until}
use Rattle.box_lanes.proofs.starts.count_until.Goals as goal

point : (c : goal.After-partition_point) → IsUntil c.args.value c.args.starts.now c.partition_point.result
point c =
    IsPartitionPoint-from_clause (λ (s : Start). int_le s.low c.args.value) _ _ c.partition_point.ensures.partitioned (parted-until c.args.value c.args.starts.now c.requires) (λ a r f k. search rules)

pub returns-clause-place : goal.returns-clause-place
returns-clause-place c = point c

pub returns-clause-some : goal.returns-clause-some
returns-clause-some c = some_until c.args.value c.args.starts.now c.partition_point.result c.requires c.ranges.value (point c)

pub returns-clause-last : goal.returns-clause-last
returns-clause-last c =
    λ d. last_until c.args.value c.args.starts.now c.partition_point.result d c.requires (some_until c.args.value c.args.starts.now c.partition_point.result c.requires c.ranges.value (point c)) c.partition_point.ensures.bound (point c)
