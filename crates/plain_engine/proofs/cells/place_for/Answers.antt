use Rattle.std.proofs.Common.{int_lt, rules}
use Rattle.std.proofs.lemmas.List.Sorted.{IsPartitionPoint-from_clause}
use Rattle.as_base.specs.declared.fragment.Cell.{Cell}
use Rattle.plain_engine.proofs.CellLaws.{rising-partitioned}
use Rattle.plain_engine.proofs.cells.place_for.Goals as goal

pub returns-clause-place : goal.returns-clause-place
returns-clause-place c =
    IsPartitionPoint-from_clause (λ (x : Cell). int_lt x.group c.args.group) _ _ c.partition_point.ensures.partitioned (rising-partitioned c.args.group c.args.cells.now c.requires) (λ a r f k. search rules)
