use Rattle.std.proofs.Common.{◌≡◌, ◌++◌, take}
use Rattle.group_table.specs.Held.{held}
use Rattle.group_table.proofs.small.append_held.Given as goal

abbrev pub invariant-loop-entry : goal.invariant-loop-entry
invariant-loop-entry l = l.cells.items ≡ l.initial.cells.items ++ held (take l.entry-index l.entries) l.slot
