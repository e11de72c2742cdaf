use Rattle.std.proofs.Common.{◌∙◌, length, sym, ap}
use Rattle.queryset_lanes.proofs.Words.{length-slots_of-words}
use Rattle.queryset_lanes.proofs.QuerySet.lanes.Goals as goal

pub returns-clause-size : goal.returns-clause-size
returns-clause-size c = ap length (sym c.self.view_is) ∙ length-slots_of-words c.self.inside.words c.self.invariant
