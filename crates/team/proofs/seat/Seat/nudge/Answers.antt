use Rattle.std.proofs.Common.{subst}
use Rattle.feeder.proofs.GoingLaws.{later_after}
use Rattle.team.specs.Seat.{IsSeated}
use Rattle.team.proofs.seat.Seat.nudge.Goals as goal
use Rattle.team.proofs.seat.Seat.nudge.Goals.{in-There, in-Here}

pub invariant_of-self : goal.invariant_of-self
invariant_of-self g c =
    let base = c.self.inside.base.value in
    elim c.match-self.branch [
      | in-There w ↦ rw w.self-inside-is c.self.invariant
      | in-Here w ↦ rw w.self-inside-is (later_after g.F.Source base w.in-Here.feeder w.step_on.new.feeder (subst (IsSeated g.F.Source base) w.in-Here.is c.self.invariant) w.step_on.ensures)
    ]
