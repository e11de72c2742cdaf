use Rattle.std.proofs.Common.{◌+◌, set, true, [], ◌∷◌, ◌++◌, sym, ap, ap₂, subst, ◌∙◌}
use Rattle.as_base.specs.declared.item.Item.TheVariants.{End}
use Rattle.session.specs.declared.session.Clock.{Clock}
use Rattle.as_base.specs.declared.message.Msg.TheVariants.{Advance}
use Rattle.session.specs.declared.decision.Decision.TheVariants.{Pass}
use Rattle.session.specs.Decision.{IsDecided}
use Rattle.session.proofs.StepLaws.{Stands, marks_of, stands-in, stands-out, refused-end, end-step}
use Rattle.session.proofs.session.Session.take_end.Goals as goal

pub returns-in-Some-clause-stands : goal.returns-in-Some-clause-stands
returns-in-Some-clause-stands c = λ config h s.
    let p = refused-end c.args.stream c.in-Some.word (stands-in s) (sym (c.in-Some.ensures config h s)) in
    (stands-out _ _ _ p.0, p.1)

pub returns-clause-stands : goal.returns-clause-stands
returns-clause-stands c = λ config h s.
    let r = c.args.stream in
    let old = c.args.self.now in
    let p = end-step r (stands-in s) (sym (c.in_default.ensures config h s)) in
    let new = ap₂ (λ i (k : Clock). set old.clocks i (record { front = k.front; mark = k.mark; ended = true })) (sym c.place_of.ensures.value) (sym (c.clock_of-clock.ensures config h s)) in (
      stands-out _ _ _ (subst (λ clocks. Stands config (h ++ End r ∷ []) old.streams (old.items + 1) clocks old.changelog_time old.made old.slots old.live.items) new p.0),
      subst (λ l. IsDecided config h (End r) (Pass (Advance l))) (ap marks_of new ∙ sym c.watermarks.ensures) p.1,
    )
