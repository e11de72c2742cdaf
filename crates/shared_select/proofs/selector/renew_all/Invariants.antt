use Rattle.std.proofs.Common.{◌≡◌, take}
use Rattle.changelog.specs.EpochsFor.{owned}
use Rattle.changelog.specs.BySlot.{renewed}
use Rattle.shared_select.specs.Wanting.{bounds_on}
use Rattle.shared_select.proofs.selector.renew_all.Given as goal

abbrev pub invariant-loop-slot : goal.invariant-loop-slot
invariant-loop-slot l = l.columns ≡ renewed (λ slot. bounds_on l.s (owned l.epochs l.epoch slot)) l.initial.columns (take l.slot-index l.slots)
