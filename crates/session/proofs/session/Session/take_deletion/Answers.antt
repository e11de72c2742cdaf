use Rattle.std.proofs.Common.{◌≡◌, ℕ, List, ◌+◌, eqb, false, Some, [], ◌∷◌, ◌++◌, set, sym, ap, subst, subst₂, ◌∙◌}
use Rattle.std.specs.List.{position}
use Rattle.as_base.specs.declared.answer.Word.TheVariants.{Deleted}
use Rattle.as_base.specs.declared.item.Item.TheVariants.{Delete}
use Rattle.as_base.specs.declared.message.Change.TheVariants.{Closed}
use Rattle.session.specs.declared.decision.Decision.TheVariants.{Acted}
use Rattle.session.specs.declared.session.Seat.{Seat}
use Rattle.session.specs.Decision.{IsDecided}
use Rattle.session.specs.Seats.{AreSeated}
use Rattle.session.proofs.SeatLaws.{position-some, seat-live, seat-less}
use Rattle.session.proofs.StepLaws.{Stands, stands-in, stands-out, unknown-step, delete-step}
use Rattle.session.proofs.session.Session.take_deletion.Goals as goal

pub returns-in_default-clause-stands : goal.returns-in_default-clause-stands
returns-in_default-clause-stands c = λ config h s.
    let p = unknown-step c.args.n (stands-in s) (ap (position (λ (t : Seat). eqb t.n c.args.n)) (sym c.deref.ensures.value) ∙ sym c.in_default.ensures) in
    (stands-out _ _ _ p.0, p.1)

-- the place of the seat among the live ones
at_place : (live items : List Seat) (n i : ℕ) → items ≡ live → Some i ≡ position (λ (t : Seat). eqb t.n n) items → position (λ (t : Seat). eqb t.n n) live ≡ Some i
at_place live items n i same e = ap (position (λ (t : Seat). eqb t.n n)) (sym same) ∙ sym e

pub leave-seat-requires-clause-held : goal.leave-seat-requires-clause-held
leave-seat-requires-clause-held c = λ d.
    let old = c.args.self.now in
    let at = at_place old.live.items _ c.args.n c.in-Some.place c.deref.ensures.value c.in-Some.ensures in
    seat-live old.slots old.live.items c.in-Some.place d old.seated (position-some (λ (t : Seat). eqb t.n c.args.n) old.live.items c.in-Some.place at).1

pub invariant_of-self-2-clause-seated : goal.invariant_of-self-2-clause-seated
invariant_of-self-2-clause-seated c =
    let old = c.args.self.now in
    let at = at_place old.live.items _ c.args.n c.in-Some.place c.deref.ensures.value c.in-Some.ensures in
    subst₂ AreSeated
    (ap (λ (t : Seat). set old.slots t.slot false) (sym c.leave-seat.ensures.seat) ∙ sym c.leave-seat.ensures.slots)
    (sym c.leave-seat.ensures.live)
    (seat-less old.slots old.live.items c.in-Some.place c.leave-seat.result old.seated (position-some (λ (t : Seat). eqb t.n c.args.n) old.live.items c.in-Some.place at).1)

pub returns-clause-stands : goal.returns-clause-stands
returns-clause-stands c = λ config h s.
    let old = c.args.self.now in
    let n = c.args.n in
    let p = delete-step n c.in-Some.place c.leave-seat.result (stands-in s) (at_place old.live.items _ n c.in-Some.place c.deref.ensures.value c.in-Some.ensures) in
    let seat = sym c.leave-seat.ensures.seat in (
      stands-out _ _ _ (subst₂ (λ l v. Stands config (h ++ Delete n ∷ []) old.streams (old.items + 1) old.clocks old.changelog_time old.made l v)
          (ap (λ (t : Seat). set old.slots t.slot false) seat ∙ sym c.leave-seat.ensures.slots) (sym c.leave-seat.ensures.live) p.0),
      subst (IsDecided config h (Delete n))
          (ap (λ (t : Seat). Acted (record { line = old.items + 1; word = Deleted n old.changelog_time }) (Closed n t.slot old.changelog_time)) seat ∙ sym c.deleted.ensures) p.1,
    )
