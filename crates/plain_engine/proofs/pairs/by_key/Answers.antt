use Rattle.std.proofs.Common.{subst, rules}
use Rattle.std.specs.List.Sorted.{IsStableByKey}
use Rattle.std.specs.Ordering.{int_cmp}
use Rattle.std.proofs.lemmas.List.Sorted.{answers_always}
use Rattle.as_base.specs.declared.item.Given.{Given}
use Rattle.plain_engine.proofs.PairLaws.{couples_with-stable}
use Rattle.plain_engine.proofs.pairs.by_key.Goals as goal

pub returns-clause-order : goal.returns-clause-order
returns-clause-order c = c.in_ok-sort_by_key.ensures.sorted (λ (g : Given). g.key) (answers_always _ _ _ (λ f a r k h. search rules))

pub returns-clause-same : goal.returns-clause-same
returns-clause-same c =
    let stable = c.in_ok-sort_by_key.ensures.stable (λ (g : Given). g.key) (answers_always _ _ _ (λ f a r k h. search rules)) in
    couples_with-stable c.args.records.now c.sort_by_key.new.self.items
    (subst (λ l. IsStableByKey (λ (g : Given). g.key) int_cmp l c.sort_by_key.new.self.items) c.in_ok-sorted.ensures.items stable)
