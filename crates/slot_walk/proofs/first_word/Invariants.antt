use Rattle.std.proofs.Common.{◌-◌, length}
use Rattle.slot_walk.proofs.WalkLaws.{AreEmpty}
use Rattle.slot_walk.proofs.first_word.Given as goal

-- no word so far has a slot
abbrev pub invariant-words : goal.invariant-words
invariant-words l = AreEmpty l.words l.fn.from l.place

abbrev pub decreases-words : goal.decreases-words
decreases-words l = length l.words - l.place
