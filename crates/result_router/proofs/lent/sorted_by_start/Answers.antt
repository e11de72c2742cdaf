use Rattle.std.proofs.Common.{ap, ◌∙◌, rules}
use Rattle.std.specs.Borrow.{Bor}
use Rattle.std.proofs.lemmas.List.Sorted.{answers_always}
use Rattle.as_base.specs.declared.fragment.Fragment.{Fragment}
use Rattle.result_router.specs.Lent.{lent}
use Rattle.result_router.specs.Merge.{window_text}
use Rattle.result_router.specs.Rising.{with_key, start_of}
use Rattle.result_router.proofs.CutLaws.{stable-keys}
use Rattle.result_router.proofs.RunLaws.{made-same}
use Rattle.result_router.proofs.SoundLaws.{query-sorted}
use Rattle.result_router.proofs.lent.sorted_by_start.Goals as goal

pub returns-clause-order : goal.returns-clause-order
returns-clause-order c = c.in_ok-sort_by_key.ensures.sorted (λ (b : Bor Fragment). start_of b.now) (answers_always _ _ _ (λ f a r k h. search rules))

pub returns-clause-text : goal.returns-clause-text
returns-clause-text c = made-same start_of window_text _ _ (λ n. stable-keys start_of n _ _ (c.in_ok-sort_by_key.ensures.stable (λ (b : Bor Fragment). start_of b.now) (answers_always _ _ _ (λ f a r k h. search rules))) ∙ ap (λ fs. with_key start_of n (lent fs)) c.in_ok-sorted.ensures.items)

pub returns-clause-sound : goal.returns-clause-sound
returns-clause-sound c = λ h. query-sorted _ _ h (λ n. stable-keys start_of n _ _ (c.in_ok-sort_by_key.ensures.stable (λ (b : Bor Fragment). start_of b.now) (answers_always _ _ _ (λ f a r k h. search rules))) ∙ ap (λ fs. with_key start_of n (lent fs)) c.in_ok-sorted.ensures.items)
