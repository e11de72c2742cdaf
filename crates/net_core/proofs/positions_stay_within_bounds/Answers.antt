use Rattle.net_core.proofs.BoundLaws.{positions-within}
use Rattle.net_core.proofs.positions_stay_within_bounds.Goals as goal

pub returns : goal.returns
returns c = positions-within
