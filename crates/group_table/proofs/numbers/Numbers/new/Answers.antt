use Rattle.std.proofs.Common.{refl}
use Rattle.group_table.proofs.NumberLaws.{numbers-none}
use Rattle.group_table.proofs.numbers.Numbers.new.Goals as goal

pub invariant_of-result : goal.invariant_of-result
invariant_of-result c = numbers-none c.in_ok-numbers.numbers.items c.none.result 0 512 c.in_ok-numbers.ensures.len c.in_ok-numbers.ensures.none c.none.ensures refl refl
