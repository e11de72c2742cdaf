use Rattle.std.proofs.Common.{◌≡◌, None, replicate}
use Rattle.box_lanes.proofs.blocks.Blocks.new.Given as goal

abbrev pub invariant-loop-place : goal.invariant-loop-place
invariant-loop-place l = l.blocks.items ≡ replicate l.place (replicate 64 None)
