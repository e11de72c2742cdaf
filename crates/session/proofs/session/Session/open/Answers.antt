use Rattle.std.proofs.Common.{◌+◌, [], ◌∷◌, ◌++◌, sym, subst, subst₂}
use Rattle.as_base.specs.declared.item.Item.TheVariants.{Create}
use Rattle.session.specs.declared.session.Seat.{Seat}
use Rattle.session.specs.Seats.{AreSeated}
use Rattle.session.proofs.SeatLaws.{seat-more}
use Rattle.session.proofs.StepLaws.{Stands, stands-in, stands-out, full-step, open-step}
use Rattle.session.proofs.session.Session.open.Goals as goal

pub returns-in-Err-clause-stands : goal.returns-in-Err-clause-stands
returns-in-Err-clause-stands c = λ config h text is s.
    let old = c.args.self.now in
    let taken = c.in-Err.ensures.taken in
    let p = full-step text c.args.plan (stands-in s) is taken.0 in
    (stands-out _ _ _ (subst (λ l. Stands config (h ++ Create text ∷ []) old.streams (old.items + 1) old.clocks old.changelog_time old.made l old.live.items) (sym taken.1) p.0), p.1)

pub invariant_of-self-2-clause-seated : goal.invariant_of-self-2-clause-seated
invariant_of-self-2-clause-seated c =
    let old = c.args.self.now in
    let least = c.in-Ok.ensures.least in
    let seat : Seat = record { n = old.made + 1; slot = c.in-Ok.slot } in
    subst₂ AreSeated (sym (c.in-Ok.ensures.taken).1) (sym c.push_reserved.ensures.items) (seat-more old.slots old.live.items seat old.seated least.within least.free)

pub returns-clause-stands : goal.returns-clause-stands
returns-clause-stands c = λ config h text is s.
    let old = c.args.self.now in
    let taken = c.in-Ok.ensures.taken in
    let p = open-step text c.args.plan c.in-Ok.slot (stands-in s) is taken.0 in (
      stands-out _ _ _ (subst₂ (λ l v. Stands config (h ++ Create text ∷ []) old.streams (old.items + 1) old.clocks old.changelog_time (old.made + 1) l v) (sym taken.1) (sym c.push_reserved.ensures.items) p.0),
      p.1,
    )
