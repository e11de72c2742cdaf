use Rattle.std.proofs.Common.{count_by}
use Rattle.group_table.proofs.NumberLaws.{AreGiving}
use Rattle.group_table.proofs.numbers.Numbers.give_each.Given as goal

-- the slots that are left have no number, and all others have one
abbrev pub invariant-slots : goal.invariant-slots
invariant-slots l = AreGiving l.initial.self l.self l.slots l.left

abbrev pub decreases-slots : goal.decreases-slots
decreases-slots l = count_by (λ on. on) l.left
