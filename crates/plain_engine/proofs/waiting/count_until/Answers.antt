use Rattle.std.proofs.Common.{nat_le, rules}
use Rattle.std.proofs.lemmas.List.Sorted.{IsPartitionPoint-from_clause, IsPartitionedBy-leb}
use Rattle.as_base.specs.declared.item.Given.{Given}
use Rattle.plain_engine.proofs.waiting.count_until.Goals as goal

pub returns-clause-place : goal.returns-clause-place
returns-clause-place c =
    let parted = IsPartitionedBy-leb (λ (g : Given). g.time) c.args.records.now c.args.time c.requires in
    IsPartitionPoint-from_clause (λ (g : Given). nat_le g.time c.args.time) _ _ c.partition_point.ensures.partitioned parted (λ a r f k. search rules)
