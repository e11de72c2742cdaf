use Rattle.views.proofs.SlotLaws.{queries-held}
use Rattle.views.proofs.slots.holders_hold_the_queries_of_views.Goals as goal

pub returns : goal.returns
returns c = queries-held
