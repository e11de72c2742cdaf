use Rattle.std.proofs.Common.{rules}
use Rattle.std.proofs.lemmas.List.Sorted.{answers_always}
use Rattle.as_base.specs.declared.item.Record.{Record}
use Rattle.result_router.proofs.OrderLaws.{sorted-in_order}
use Rattle.result_router.proofs.bodies.sort_records.Goals as goal

pub returns : goal.returns
returns c =
    sorted-in_order _ _
    (c.in_ok-sort_by_key.ensures.sorted (λ (r : Record). (r.given.time, r.seq)) (answers_always _ _ _ (λ f a r k h. search rules)))
    (c.in_ok-sort_by_key.ensures.stable (λ (r : Record). (r.given.time, r.seq)) (answers_always _ _ _ (λ f a r k h. search rules)))
