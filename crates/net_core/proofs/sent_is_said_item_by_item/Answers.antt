use Rattle.net_core.proofs.SentLaws.{sent-push}
use Rattle.net_core.proofs.sent_is_said_item_by_item.Goals as goal

pub returns : goal.returns
returns c = sent-push
