use Rattle.std.proofs.Common.{◌≤◌, ltb, subst, rules}
use Rattle.std.proofs.lemmas.List.Sorted.{IsPartitionPoint-from_clause}
use Rattle.by_start.specs.declared.Begun.{Begun}
use Rattle.by_start.proofs.OrderLaws.{partitioned, point-is}
use Rattle.by_start.proofs.count_before.Goals as goal

pub returns-clause-count : goal.returns-clause-count
returns-clause-count g c =
    let s = c.args.list.now in
    point-is c.args.time c.partition_point.result s.items c.requires (subst (λ n. c.partition_point.result ≤ n) s.ok.0 c.partition_point.ensures.bound)
    (IsPartitionPoint-from_clause (λ (b : Begun g.row.T.Denot). ltb b.start c.args.time) _ _ c.partition_point.ensures.partitioned (partitioned c.args.time s.items c.requires) (λ a r f k. search rules))
