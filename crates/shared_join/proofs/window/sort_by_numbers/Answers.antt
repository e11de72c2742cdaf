use Rattle.std.proofs.Common.{rules}
use Rattle.std.proofs.lemmas.List.Sorted.{answers_always}
use Rattle.as_base.specs.declared.fragment.Couple.{Couple}
use Rattle.shared_join.proofs.window.sort_by_numbers.Goals as goal

pub returns-clause-order : goal.returns-clause-order
returns-clause-order c =
    c.in_ok-sort_by_key.ensures.sorted (λ (d : Couple). (d.left.key, d.left.time, d.left.v, d.right.time, d.right.v)) (answers_always _ _ _ (λ f a r k h. search rules))

pub returns-clause-stable : goal.returns-clause-stable
returns-clause-stable c =
    c.in_ok-sort_by_key.ensures.stable (λ (d : Couple). (d.left.key, d.left.time, d.left.v, d.right.time, d.right.v)) (answers_always _ _ _ (λ f a r k h. search rules))
