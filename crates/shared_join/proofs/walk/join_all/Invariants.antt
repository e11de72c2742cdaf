use Rattle.std.proofs.Common.{◌≡◌, ◌++◌, take, false}
use Rattle.std.specs.List.{flat_map}
use Rattle.shared_join.specs.Found.{found_with}
use Rattle.shared_join.proofs.walk.join_all.Given as goal

-- the pairs of the left records so far
abbrev pub invariant-loop-place : goal.invariant-loop-place
invariant-loop-place l = l.pairs.items ≡ l.initial.pairs.items ++ flat_map (found_with false l.mask l.rights) (take l.place l.lefts)
