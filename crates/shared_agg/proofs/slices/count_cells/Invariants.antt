use Rattle.std.proofs.Common.{◌≡◌, ◌-◌, ◌^◌, take, min}
use Rattle.shared_agg.specs.Slices.{total_in}
use Rattle.shared_agg.proofs.slices.count_cells.Given as goal

abbrev pub invariant-loop-place : goal.invariant-loop-place
invariant-loop-place l = l.count ≡ min (total_in (take l.place l.slices.items)) (2 ^ 64 - 1)
