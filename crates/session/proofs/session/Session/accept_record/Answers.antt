use Rattle.std.proofs.Common.{◌≡◌, ◌+◌, nat_lt, set, Some, None, [], ◌∷◌, ◌++◌, sym, ap, ap₂, subst₂, ◌∙◌}
use Rattle.as_base.specs.declared.answer.Word.TheVariants.{Late}
use Rattle.as_base.specs.declared.item.Item.TheVariants.{Rec}
use Rattle.session.specs.declared.session.Clock.{Clock}
use Rattle.session.specs.Book.{stream_refusal, refusal}
use Rattle.session.proofs.StepLaws.{Stands, stands-in, stands-out, refused-record, record-step}
use Rattle.session.proofs.session.Session.accept_record.Goals as goal

pub returns-in-Some-clause-stands : goal.returns-in-Some-clause-stands
returns-in-Some-clause-stands c = λ config h s.
    let g = c.args.given.now in
    let e : refusal config h (Rec g) ≡ Some c.in-Some.word =
    sym (c.in-Some.ensures config h s ∙ ap (λ (k : Clock). stream_refusal config h g.stream (nat_lt g.time k.front) Late) (c.clock_of-clock.ensures config h s)) in
    let p = refused-record g c.in-Some.word (stands-in s) e in
    (stands-out _ _ _ p.0, p.1)

pub returns-clause-stands : goal.returns-clause-stands
returns-clause-stands c = λ config h s.
    let g = c.args.given.now in
    let old = c.args.self.now in
    let e : refusal config h (Rec g) ≡ None =
    sym (c.in_default.ensures config h s ∙ ap (λ (k : Clock). stream_refusal config h g.stream (nat_lt g.time k.front) Late) (c.clock_of-clock.ensures config h s)) in
    let p = record-step g (stands-in s) e in (
      stands-out _ _ _ (subst₂ (λ clocks time. Stands config (h ++ Rec g ∷ []) old.streams (old.items + 1) clocks time old.made old.slots old.live.items)
          (ap₂ (λ i (k : Clock). set old.clocks i (record { front = g.time; mark = k.mark; ended = k.ended })) (sym c.place_of.ensures.value) (sym (c.clock_of-clock.ensures config h s)))
          (sym c.changelog_after-self.ensures) p.0),
      p.1,
    )
