use Rattle.std.proofs.Common.{int_le, rules}
use Rattle.std.proofs.lemmas.List.Sorted.{IsPartitionPoint-from_clause}
use Rattle.as_base.specs.declared.item.Given.{Given}
use Rattle.plain_engine.proofs.CutLaws.{cut-before}
use Rattle.plain_engine.proofs.PairLaws.{partitioned-upto}
use Rattle.plain_engine.proofs.pairs.until_key.Goals as goal

pub returns : goal.returns
returns c =
    cut-before (λ (g : Given). int_le g.key c.args.key) c.partition_point.result c.args.records.now
    (IsPartitionPoint-from_clause (λ (g : Given). int_le g.key c.args.key) _ _ c.partition_point.ensures.partitioned (partitioned-upto c.args.key c.args.records.now c.requires) (λ a r f k. search rules))
