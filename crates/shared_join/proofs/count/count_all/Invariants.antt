use Rattle.std.proofs.Common.{◌≡◌, ◌-◌, ◌^◌, min, take}
use Rattle.std.specs.List.{AllByRecursion, sum_by}
use Rattle.shared_join.specs.Names.{lane_pairs, IsInOrder}
use Rattle.shared_join.proofs.count.count_all.Given as goal

-- the lanes so far
abbrev pub invariant-loop-lane : goal.invariant-loop-lane
invariant-loop-lane l = record {
  number : l.count ≡ min (sum_by lane_pairs (take l.lane-index l.lanes)) (2 ^ 64 - 1);
  order : AllByRecursion IsInOrder (take l.lane-index l.lanes);
}
