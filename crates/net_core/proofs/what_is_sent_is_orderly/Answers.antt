use Rattle.net_core.proofs.OrderlyLaws.{sent-orderly}
use Rattle.net_core.proofs.what_is_sent_is_orderly.Goals as goal

pub returns : goal.returns
returns c = sent-orderly
