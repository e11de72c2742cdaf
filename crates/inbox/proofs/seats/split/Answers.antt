use Rattle.std.proofs.Common.{refl, sym, ap, ◌∙◌, subst, arith}
use Rattle.inbox.specs.Roles.{HoldsRole, without}
use Rattle.inbox.specs.Sound.{IsSound}
use Rattle.inbox.proofs.Passing.{forks}
use Rattle.inbox.proofs.seats.split.Goals as goal

pub another-first-requires-clause-rule : goal.another-first-requires-clause-rule
another-first-requires-clause-rule g c = forks IsSound g.W.Watch.sees 1 _ _ (omega arith) (subst (λ v. HoldsRole v 1) (sym c.requires.all) refl)

pub another-second-requires-clause-rule : goal.another-second-requires-clause-rule
another-second-requires-clause-rule g c =
    let first = c.another-first.ensures.rule.0 ∙ ap (λ v. without v 1) c.requires.all in
    forks IsSound g.W.Watch.sees 2 _ _ (omega arith) (subst (λ v. HoldsRole v 2) (sym first) refl)

pub another-third-requires-clause-rule : goal.another-third-requires-clause-rule
another-third-requires-clause-rule g c =
    let first = c.another-first.ensures.rule.0 ∙ ap (λ v. without v 1) c.requires.all in
    let second = c.another-second.ensures.rule.0 ∙ ap (λ v. without v 2) first in
    forks IsSound g.W.Watch.sees 3 _ _ (omega arith) (subst (λ v. HoldsRole v 3) (sym second) refl)

pub another-fourth-requires-clause-rule : goal.another-fourth-requires-clause-rule
another-fourth-requires-clause-rule g c =
    let first = c.another-first.ensures.rule.0 ∙ ap (λ v. without v 1) c.requires.all in
    let second = c.another-second.ensures.rule.0 ∙ ap (λ v. without v 2) first in
    let third = c.another-third.ensures.rule.0 ∙ ap (λ v. without v 3) second in
    forks IsSound g.W.Watch.sees 4 _ _ (omega arith) (subst (λ v. HoldsRole v 4) (sym third) refl)

pub another-fifth-requires-clause-rule : goal.another-fifth-requires-clause-rule
another-fifth-requires-clause-rule g c =
    let first = c.another-first.ensures.rule.0 ∙ ap (λ v. without v 1) c.requires.all in
    let second = c.another-second.ensures.rule.0 ∙ ap (λ v. without v 2) first in
    let third = c.another-third.ensures.rule.0 ∙ ap (λ v. without v 3) second in
    let fourth = c.another-fourth.ensures.rule.0 ∙ ap (λ v. without v 4) third in
    forks IsSound g.W.Watch.sees 5 _ _ (omega arith) (subst (λ v. HoldsRole v 5) (sym fourth) refl)
