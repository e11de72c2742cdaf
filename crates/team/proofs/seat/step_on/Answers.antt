use Rattle.feeder.proofs.GoingLaws.{later_refl}
use Rattle.team.proofs.seat.step_on.Goals as goal

pub returns-then-is_over : goal.returns-then-is_over
returns-then-is_over g c = later_refl g.F.Source c.args.feeder.now
