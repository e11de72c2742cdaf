use Rattle.std.proofs.Common.{◌∙◌, not, ap}
use Rattle.queryset_lanes.specs.Slots.{has_slot}
use Rattle.queryset_lanes.proofs.Counts.{none-slots_of}
use Rattle.queryset_lanes.proofs.QuerySet.is_empty.Goals as goal

pub returns-clause-value : goal.returns-clause-value
returns-clause-value c = none-slots_of c.lanes.result c.lanes.ensures.words.fit 0 ∙ ap (λ slots. not (has_slot slots)) c.lanes.ensures.slots
