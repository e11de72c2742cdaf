use Rattle.std.proofs.Common.{refl}
use Rattle.soak.proofs.soak.Soak.new.Goals as goal

pub returns-clause-soaked : goal.returns-clause-soaked
returns-clause-soaked g c = record { config = refl; stands = c.requires; tally = c.new.ensures (g.E.QueryEngine.config c.args.engine) }
