use Rattle.std.proofs.Common.{◌≡◌, ◌+◌, max, nat_lt, set, false, Some, None, [], ◌∷◌, ◌++◌, sym, ap, ap₂, subst, subst₂, ◌∙◌}
use Rattle.as_base.specs.declared.answer.Word.TheVariants.{Back}
use Rattle.as_base.specs.declared.item.Item.TheVariants.{Mark}
use Rattle.session.specs.declared.session.Clock.{Clock}
use Rattle.session.specs.Book.{stream_refusal, refusal}
use Rattle.as_base.specs.declared.message.Msg.TheVariants.{Advance}
use Rattle.session.specs.declared.decision.Decision.TheVariants.{Pass}
use Rattle.session.specs.Decision.{IsDecided}
use Rattle.session.proofs.StepLaws.{Stands, marks_of, stands-in, stands-out, refused-mark, mark-step}
use Rattle.session.proofs.session.Session.take_mark.Goals as goal

pub returns-in-Some-clause-stands : goal.returns-in-Some-clause-stands
returns-in-Some-clause-stands c = λ config h s.
    let r = c.args.stream in
    let t = c.args.time in
    let e : refusal config h (Mark r t) ≡ Some c.in-Some.word =
    sym (c.in-Some.ensures config h s ∙ ap (λ (k : Clock). stream_refusal config h r (nat_lt t k.mark) Back) (c.clock_of-clock.ensures config h s)) in
    let p = refused-mark r t c.in-Some.word (stands-in s) e in
    (stands-out _ _ _ p.0, p.1)

pub returns-clause-stands : goal.returns-clause-stands
returns-clause-stands c = λ config h s.
    let r = c.args.stream in
    let t = c.args.time in
    let old = c.args.self.now in
    let e : refusal config h (Mark r t) ≡ None =
    sym (c.in_default.ensures config h s ∙ ap (λ (k : Clock). stream_refusal config h r (nat_lt t k.mark) Back) (c.clock_of-clock.ensures config h s)) in
    let p = mark-step r t (stands-in s) e in
    let new = ap₂ (λ i f. set old.clocks i (record { front = f; mark = t; ended = false })) (sym c.place_of.ensures.value) (ap (λ (k : Clock). max k.front t) (sym (c.clock_of-clock.ensures config h s)) ∙ sym c.max.ensures) in (
      stands-out _ _ _ (subst₂ (λ clocks time. Stands config (h ++ Mark r t ∷ []) old.streams (old.items + 1) clocks time old.made old.slots old.live.items) new (sym c.changelog_after-self.ensures) p.0),
      subst (λ l. IsDecided config h (Mark r t) (Pass (Advance l))) (ap marks_of new ∙ sym c.watermarks.ensures) p.1,
    )
