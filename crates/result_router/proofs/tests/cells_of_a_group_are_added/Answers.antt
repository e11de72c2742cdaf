use Rattle.std.proofs.Common.{◌≡◌, ◌++◌, Some, None, List, [], ◌∷◌, slice_set, replicate, sym, ap, subst, ◌∙◌, append-nil, arith, rules}
use Rattle.std.specs.List.{AllByRecursion}
use Rattle.result_router.specs.Held.{fragments_of}
use Rattle.result_router.specs.Rows.{cells_of}
use Rattle.result_router.specs.Sound.{AreSound, IsSoundFragment}
use Rattle.result_router.proofs.FewLaws.{records_in_all, few-sound-both}
use Rattle.result_router.proofs.tests.cells_of_a_group_are_added.Goals as goal

pub gather-requires-clause-sound : goal.gather-requires-clause-sound
gather-requires-clause-sound g c =
    let is : c.expect-router.result ≡ replicate 2 None = search rules in
    let sound : AllByRecursion IsSoundFragment c.expect-three.result.fragments = search rules in
    let one : records_in_all (cells_of c.expect-three.result.fragments) ≡ 1 = search rules in
    subst (λ l. AreSound (fragments_of (slice_set l 0 (Some c.expect-three.result)))) (sym is) (few-sound-both c.expect-three.result.fragments [] sound tt (omega (arith, one)))

pub gather-requires-2-clause-sound : goal.gather-requires-2-clause-sound
gather-requires-2-clause-sound g c =
    let is : c.gather.new.self ≡ Some c.expect-three.result ∷ None ∷ [] = search rules in
    let sound : AllByRecursion IsSoundFragment c.expect-three.result.fragments = search rules in
    let other : AllByRecursion IsSoundFragment c.expect-four.result.fragments = search rules in
    let one : records_in_all (cells_of c.expect-three.result.fragments) ≡ 1 = search rules in
    let two : records_in_all (cells_of c.expect-four.result.fragments) ≡ 1 = search rules in
    subst (λ l. AreSound (fragments_of (slice_set l 1 (Some c.expect-four.result)))) (sym is)
    (subst (λ l. AreSound (c.expect-three.result.fragments ++ l)) (sym (append-nil c.expect-four.result.fragments)) (few-sound-both c.expect-three.result.fragments c.expect-four.result.fragments sound other (omega (arith, one, two))))
