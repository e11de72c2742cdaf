use Rattle.std.proofs.Common.{◌≡◌, ◌≤◌, ◌++◌, length}
use Rattle.std.specs.List.{flat_map}
use Rattle.shared_join.specs.Window.{row_shown, starts_between, starts_upto}
use Rattle.shared_join.proofs.window.push_lane.Given as goal

-- the pairs of the slices so far
abbrev pub invariant-loop-place : goal.invariant-loop-place
invariant-loop-place l = record {
  within : l.place ≤ length l.ones.slices;
  pairs : l.couples.items ≡ l.initial.couples.items ++ flat_map (λ c. flat_map (row_shown l.window l.lane c) (starts_between l.window l.others)) (starts_upto l.window l.ones l.place);
}
