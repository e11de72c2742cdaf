use Rattle.session.proofs.FollowLaws.{message-follows, view-is}
use Rattle.session.proofs.ViewLaws.{view-message, view-same}
use Rattle.session.proofs.laws.messages_are_what_views_take.Goals as goal

pub returns : goal.returns
returns c = record { after = view-message; same = view-same; follows = message-follows; views = view-is }
