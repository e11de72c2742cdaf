use Rattle.std.proofs.Common.{◌≡◌, ◌++◌, take}
use Rattle.std.specs.List.{flat_map}
use Rattle.shared_join.specs.Found.{found_with}
use Rattle.shared_join.proofs.walk.join_indexed.Given as goal

-- the pairs of the records so far
abbrev pub invariant-loop-place : goal.invariant-loop-place
invariant-loop-place l = l.pairs.items ≡ l.initial.pairs.items ++ flat_map (found_with l.turned l.mask l.others) (take l.place l.ones)
