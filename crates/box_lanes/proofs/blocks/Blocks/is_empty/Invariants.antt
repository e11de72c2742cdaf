use Rattle.std.proofs.Common.{◌≡◌, ℕ, ◌<◌, [], None, get_or, replicate}
use Rattle.box_lanes.proofs.blocks.Blocks.is_empty.Given as goal

abbrev pub invariant-loop-place : goal.invariant-loop-place
invariant-loop-place l = (k : ℕ) → k < l.place → get_or l.self-inside.blocks.items k [] ≡ replicate 64 None
