use Rattle.std.proofs.Common.{rules}
use Rattle.std.proofs.lemmas.List.Sorted.{answers_always}
use Rattle.as_base.specs.declared.fragment.Couple.{Couple}
use Rattle.views.proofs.PairLaws.{sorted-by_numbers}
use Rattle.result_router.proofs.bodies.sort_couples.Goals as goal

pub returns : goal.returns
returns c =
    sorted-by_numbers _ _
    (c.in_ok-sort_by_key.ensures.sorted (λ (d : Couple). (d.left.key, d.left.time, d.left.v, d.right.time, d.right.v)) (answers_always _ _ _ (λ f a r k h. search rules)))
    (c.in_ok-sort_by_key.ensures.stable (λ (d : Couple). (d.left.key, d.left.time, d.left.v, d.right.time, d.right.v)) (answers_always _ _ _ (λ f a r k h. search rules)))
