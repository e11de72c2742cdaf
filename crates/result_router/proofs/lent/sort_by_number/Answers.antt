use Rattle.std.proofs.Common.{rules}
use Rattle.std.specs.Borrow.{Bor}
use Rattle.std.proofs.lemmas.List.Sorted.{answers_always}
use Rattle.as_base.specs.declared.fragment.Fragment.{Fragment}
use Rattle.result_router.specs.Merge.{piece_for}
use Rattle.result_router.specs.Rising.{number_of}
use Rattle.result_router.proofs.CutLaws.{stable-keys}
use Rattle.result_router.proofs.RunLaws.{made-same}
use Rattle.result_router.proofs.SoundLaws.{sound-sorted}
use Rattle.result_router.proofs.lent.sort_by_number.Goals as goal

pub returns-clause-order : goal.returns-clause-order
returns-clause-order c = c.in_ok-sort_by_key.ensures.sorted (λ (b : Bor Fragment). number_of b.now) (answers_always _ _ _ (λ f a r k h. search rules))

pub returns-clause-pieces : goal.returns-clause-pieces
returns-clause-pieces c = made-same number_of piece_for _ _ (λ n. stable-keys number_of n _ _ (c.in_ok-sort_by_key.ensures.stable (λ (b : Bor Fragment). number_of b.now) (answers_always _ _ _ (λ f a r k h. search rules))))

pub returns-clause-sound : goal.returns-clause-sound
returns-clause-sound c = λ h. sound-sorted _ _ h (λ n. stable-keys number_of n _ _ (c.in_ok-sort_by_key.ensures.stable (λ (b : Bor Fragment). number_of b.now) (answers_always _ _ _ (λ f a r k h. search rules))))
