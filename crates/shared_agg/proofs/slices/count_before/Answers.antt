use Rattle.std.proofs.Common.{◌≤◌, ltb, subst, rules}
use Rattle.std.proofs.lemmas.List.Sorted.{IsPartitionPoint-from_clause}
use Rattle.shared_agg.specs.declared.slices.Slice.{Slice}
use Rattle.shared_agg.proofs.OrderLaws.{partitioned, point-is}
use Rattle.shared_agg.proofs.slices.count_before.Goals as goal

pub returns-clause-count : goal.returns-clause-count
returns-clause-count c =
    let s = c.args.slices.now in
    point-is c.args.time c.partition_point.result s.items c.requires (subst (λ n. c.partition_point.result ≤ n) s.ok.0 c.partition_point.ensures.bound)
    (IsPartitionPoint-from_clause (λ (x : Slice). ltb x.start c.args.time) _ _ c.partition_point.ensures.partitioned (partitioned c.args.time s.items c.requires) (λ a r f k. search rules))
