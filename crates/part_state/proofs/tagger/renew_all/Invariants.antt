use Rattle.std.proofs.Common.{◌≡◌, take}
use Rattle.changelog.specs.BySlot.{renewed}
use Rattle.changelog.specs.EpochsFor.{owned}
use Rattle.part_state.specs.Keeping.{keeps_records}
use Rattle.part_state.proofs.tagger.renew_all.Given as goal

abbrev pub invariant-loop-slot : goal.invariant-loop-slot
invariant-loop-slot l = l.keepers ≡ renewed (λ slot. keeps_records (owned l.epochs l.epoch slot)) l.initial.keepers (take l.slot-index l.slots)
