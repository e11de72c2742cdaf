use Rattle.group_table.proofs.LargeLaws.{large-emptied}
use Rattle.group_table.proofs.large.Large.new.Goals as goal

pub invariant_of-result : goal.invariant_of-result
invariant_of-result c = large-emptied c.new-2.result.keys c.new-3.result.items c.in_ok-numbers.numbers.numbers c.in_ok-numbers.numbers.width 0 c.new-2.ensures.empty c.new-3.ensures.items
