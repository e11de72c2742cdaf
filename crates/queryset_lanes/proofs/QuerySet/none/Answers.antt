use Rattle.std.proofs.Common.{◌∙◌}
use Rattle.queryset_lanes.proofs.Words.{slots_of_none}
use Rattle.queryset_lanes.proofs.QuerySet.none.Goals as goal

pub returns : goal.returns
returns c = c.from_lanes.ensures ∙ slots_of_none
