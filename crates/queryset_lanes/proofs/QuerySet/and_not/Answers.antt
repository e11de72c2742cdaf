use Rattle.std.proofs.Common.{rules}
use Rattle.queryset_lanes.proofs.Words.{IsWords-both, IsWords-not}
use Rattle.queryset_lanes.proofs.QuerySet.and_not.Goals as goal

pub from_lanes-requires : goal.from_lanes-requires
from_lanes-requires c = search (rules, IsWords-both, IsWords-not)
