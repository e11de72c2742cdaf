use Rattle.std.proofs.Common.{◌≡◌, take}
use Rattle.changelog.specs.EpochsFor.{owned}
use Rattle.changelog.specs.BySlot.{renewed}
use Rattle.shared_agg.specs.Duties.{duty_of}
use Rattle.shared_agg.proofs.aggs.renew_those.Given as goal

abbrev pub invariant-loop-slot : goal.invariant-loop-slot
invariant-loop-slot l = l.duties ≡ renewed (λ slot. duty_of (owned l.epochs l.epoch slot)) l.initial.duties (take l.slot-index l.slots)
