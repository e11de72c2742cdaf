use Rattle.views.proofs.ViewLaws.{IsView-first, IsView-after}
use Rattle.views.proofs.messages_make_views.Goals as goal

pub returns-clause-first : goal.returns-clause-first
returns-clause-first c = IsView-first

pub returns-clause-after : goal.returns-clause-after
returns-clause-after c = IsView-after
