use Rattle.net_core.proofs.OrderlyLaws.{taken-orderly}
use Rattle.net_core.proofs.what_was_taken_is_orderly.Goals as goal

pub returns : goal.returns
returns c = taken-orderly
