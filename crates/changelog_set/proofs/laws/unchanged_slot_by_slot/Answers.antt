use Rattle.changelog_set.proofs.SlotLaws.{unchanged-none, none-unchanged}
use Rattle.changelog_set.proofs.laws.unchanged_slot_by_slot.Goals as goal

pub returns : goal.returns
returns c = λ sets i j slot h. (unchanged-none sets i j slot h, none-unchanged sets i j slot h)
