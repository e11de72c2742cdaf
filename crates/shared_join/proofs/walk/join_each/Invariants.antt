use Rattle.std.proofs.Common.{◌≡◌, ◌++◌, take}
use Rattle.std.specs.List.{flat_map}
use Rattle.slice_store.specs.Placed.{placed}
use Rattle.shared_join.specs.Found.{kept_pair}
use Rattle.shared_join.proofs.walk.join_each.Given as goal

-- the pairs with the others so far
abbrev pub invariant-loop-place : goal.invariant-loop-place
invariant-loop-place l =
    l.pairs.items ≡ l.initial.pairs.items ++ flat_map (kept_pair l.turned (placed l.one l.set)) (take l.place l.others)
