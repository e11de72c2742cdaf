use Rattle.std.proofs.Common.{◌≡◌, ◌≤◌, length, take, drop}
use Rattle.group_table.specs.Cells.{sums}
use Rattle.group_table.proofs.sums.join_groups.Given as goal

abbrev pub invariant-loop-next : goal.invariant-loop-next
invariant-loop-next l = record {
  most : l.kept ≤ l.next;
  long : length l.cells.items ≡ length l.initial.cells.items;
  done : take l.kept l.cells.items ≡ sums (take l.next l.initial.cells.items);
  rest : drop l.next l.cells.items ≡ drop l.next l.initial.cells.items;
}
