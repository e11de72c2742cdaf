use Rattle.std.proofs.Common.{nat_lt, rules}
use Rattle.std.proofs.lemmas.List.Sorted.{IsPartitionPoint-from_clause, IsPartitionedBy-ltb}
use Rattle.as_base.specs.declared.item.Given.{Given}
use Rattle.plain_engine.proofs.CutLaws.{cut-before}
use Rattle.plain_engine.proofs.TimeLaws.{cut-from_time}
use Rattle.plain_engine.proofs.windows.count_before.Goals as goal

pub returns-clause-before : goal.returns-clause-before
returns-clause-before c =
    let parted = IsPartitionedBy-ltb (λ (g : Given). g.time) c.args.records.now c.args.time c.requires in
    cut-before (λ (g : Given). nat_lt g.time c.args.time) c.partition_point.result c.args.records.now
    (IsPartitionPoint-from_clause (λ (g : Given). nat_lt g.time c.args.time) _ _ c.partition_point.ensures.partitioned parted (λ a r f k. search rules))

pub returns-clause-rest : goal.returns-clause-rest
returns-clause-rest c =
    let parted = IsPartitionedBy-ltb (λ (g : Given). g.time) c.args.records.now c.args.time c.requires in
    cut-from_time c.args.time c.partition_point.result c.args.records.now
    (IsPartitionPoint-from_clause (λ (g : Given). nat_lt g.time c.args.time) _ _ c.partition_point.ensures.partitioned parted (λ a r f k. search rules))
