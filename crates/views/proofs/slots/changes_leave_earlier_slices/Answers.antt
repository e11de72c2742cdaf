use Rattle.views.proofs.CutLaws.{cut-held}
use Rattle.views.proofs.SlotLaws.{owner-held, set_of-held, Unended-held}
use Rattle.views.proofs.slots.changes_leave_earlier_slices.Goals as goal

pub returns-clause-cuts : goal.returns-clause-cuts
returns-clause-cuts c = cut-held

pub returns-clause-owners : goal.returns-clause-owners
returns-clause-owners c = owner-held

pub returns-clause-sets : goal.returns-clause-sets
returns-clause-sets c = set_of-held

pub returns-clause-unended : goal.returns-clause-unended
returns-clause-unended c = Unended-held
