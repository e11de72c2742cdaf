use Rattle.std.proofs.Common.{◌∙◌}
use Rattle.queryset_lanes.proofs.Words.{slots_of_full}
use Rattle.queryset_lanes.proofs.QuerySet.all.Goals as goal

pub returns : goal.returns
returns c = c.from_lanes.ensures ∙ slots_of_full
