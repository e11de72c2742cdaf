use Rattle.std.proofs.Common.{◌-◌}
use Rattle.group_table.proofs.NumberLaws.{no-number}
use Rattle.group_table.proofs.numbers.no_numbers.Goals as goal

pub returns-clause-none : goal.returns-clause-none
returns-clause-none c = no-number _ _ 512 (512 - c.new-numbers.result.len) c.in_ok-resize.ensures.items c.new-numbers.ensures.items
