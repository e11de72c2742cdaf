use Rattle.std.proofs.Common.{◌≡◌, ℕ, false, IfNone, length, slice_set, subst, sym, ap, ◌∙◌, arith}
use Rattle.queryset_lanes.specs.Words.{slots_of}
use Rattle.queryset_lanes.proofs.Words.{length-slots_of-words}
use Rattle.slot_walk.specs.Walk.{has}
use Rattle.slot_walk.proofs.WalkLaws.{none_on, none_below, taken}
use Rattle.slot_walk.proofs.Slots.next.Goals as goal

pub returns-in_err-place-clause-none : goal.returns-in_err-place-clause-none
returns-in_err-place-clause-none c =
    subst (λ o. IfNone o ((slot : ℕ) → has c.args.self.now slot ≡ false)) (sym c.from_residual.ensures) (λ s.
    ap (λ set. has set s) (sym c.self.view_is) ∙ none_on c.self.inside.words c.self.inside.place c.self.invariant c.in_err-place.ensures.none s)

pub returns-clause-some : goal.returns-clause-some
returns-clause-some c =
    let words = c.self.inside.words in
    let slot = c.take_lowest.result in
    let at : slots_of words ≡ c.args.self.now = c.self.view_is in
    let long = length-slots_of-words words c.self.invariant.words_are in
    let first = c.in_ok-place.ensures.some in
    taken c.args.self.now (slots_of c.take_lowest.new.words) slot
    (omega (arith, c.take_lowest.ensures.here, first.within, c.self.invariant.words_are.eight))
    (sym (ap length at) ∙ long)
    (sym (ap (λ set. has set slot) at) ∙ c.take_lowest.ensures.was)
    (λ s lt. sym (ap (λ set. has set s) at) ∙ none_below words c.self.inside.place c.in_ok-place.place slot c.self.invariant first c.take_lowest.ensures.here c.take_lowest.ensures.least s lt)
    (c.take_lowest.ensures.value ∙ ap (λ set. slice_set set slot false) at)
