use Rattle.std.proofs.Common.{◌≡◌, ◌-◌, ◌^◌, min, take}
use Rattle.std.specs.List.{AllByRecursion}
use Rattle.by_start.specs.declared.Begun.{Begun}
use Rattle.by_start.specs.Order.{StartsRise}
use Rattle.shared_join.specs.Lanes.{Row}
use Rattle.shared_join.specs.Names.{lane_pairs}
use Rattle.shared_join.proofs.count.count_lane.Given as goal

-- the rows so far
abbrev pub invariant-loop-place : goal.invariant-loop-place
invariant-loop-place l = record {
  number : l.count ≡ min (lane_pairs (take l.place l.lane)) (2 ^ 64 - 1);
  rows : AllByRecursion (λ (r : Begun Row). StartsRise r.thing) (take l.place l.lane);
}
