use Rattle.std.proofs.Common.{◌≡◌, ◌≤◌, ◌++◌, length}
use Rattle.std.specs.List.{flat_map}
use Rattle.shared_join.specs.Window.{row_shown, starts_upto}
use Rattle.shared_join.proofs.window.push_row.Given as goal

-- the pairs with the slices so far
abbrev pub invariant-loop-place : goal.invariant-loop-place
invariant-loop-place l = record {
  within : l.place ≤ length l.others.slices;
  pairs : l.couples.items ≡ l.initial.couples.items ++ flat_map (row_shown l.window l.lane l.first) (starts_upto l.window l.others l.place);
}
