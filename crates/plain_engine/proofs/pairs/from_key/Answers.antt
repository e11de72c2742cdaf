use Rattle.std.proofs.Common.{◌≡◌, ◌-◌, int_lt, int_le, length, take, drop, rules, sym, subst, ◌∙◌, arith, length-drop, take_all}
use Rattle.std.specs.List.{filter}
use Rattle.std.proofs.lemmas.List.Sorted.{IsPartitionPoint-from_clause}
use Rattle.as_base.specs.declared.item.Given.{Given}
use Rattle.plain_engine.specs.ByKey.{AreByKey}
use Rattle.plain_engine.proofs.CutLaws.{IsCutAt}
use Rattle.plain_engine.proofs.PairLaws.{partitioned-below, cut-from, by_key-filter}
use Rattle.plain_engine.proofs.pairs.from_key.Goals as goal

rest : (c : goal.After-result-1) → take (length c.args.records.now - c.partition_point.result) (drop c.partition_point.result c.args.records.now) ≡ filter (λ (g : Given). int_le c.args.key g.key) c.args.records.now
rest c =
    let gs = c.args.records.now in
    let i = c.partition_point.result in
    let long = length-drop i gs in
    let point : IsCutAt (λ (g : Given). int_lt g.key c.args.key) gs i =
    IsPartitionPoint-from_clause (λ (g : Given). int_lt g.key c.args.key) _ _ c.partition_point.ensures.partitioned (partitioned-below c.args.key gs c.requires) (λ a r f k. search rules) in
    take_all (length gs - i) (drop i gs) (omega (arith, long)) ∙ cut-from c.args.key i gs point

pub returns-clause-value : goal.returns-clause-value
returns-clause-value c = rest c

pub returns-clause-order : goal.returns-clause-order
returns-clause-order c = subst AreByKey (sym (rest c)) (by_key-filter (λ (g : Given). int_le c.args.key g.key) c.args.records.now c.requires)
