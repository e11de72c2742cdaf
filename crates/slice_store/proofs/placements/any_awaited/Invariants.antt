use Rattle.std.proofs.Common.{◌≡◌, false, take}
use Rattle.std.specs.List.{list_any}
use Rattle.slice_store.specs.Placed.{placed_of, is_awaited}
use Rattle.slice_store.proofs.placements.any_awaited.Given as goal

-- none of the records so far is awaited
abbrev pub invariant-loop-place : goal.invariant-loop-place
invariant-loop-place l = list_any (is_awaited l.windows l.selects l.wm) (take l.place (placed_of l.records l.sets)) ≡ false
