use Rattle.std.proofs.Common.{◌≡◌, ◌++◌, take}
use Rattle.std.specs.List.{flat_map}
use Rattle.slice_store.specs.Placed.{placed}
use Rattle.shared_join.specs.Found.{kept_at}
use Rattle.shared_join.proofs.walk.join_by_index.Given as goal

-- the pairs with those at the places so far
abbrev pub invariant-loop-place : goal.invariant-loop-place
invariant-loop-place l =
    l.pairs.items ≡ l.initial.pairs.items ++ flat_map (kept_at l.turned (placed l.one l.set) l.others) (take l.place-index l.places)
