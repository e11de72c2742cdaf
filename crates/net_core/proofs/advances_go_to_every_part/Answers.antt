use Rattle.net_core.proofs.AdvanceLaws.{advances-sent}
use Rattle.net_core.proofs.advances_go_to_every_part.Goals as goal

pub returns : goal.returns
returns c = advances-sent
