use Rattle.std.proofs.Common.{◌≡◌, ◌<◌, ℕ, ◌==◌, not, [], length, slice_index, slice_index_or}
use Rattle.queryset_lanes.specs.Slots.{meets}
use Rattle.queryset_lanes.proofs.meeting_in_block.Given as goal

abbrev pub invariant-loop-place : goal.invariant-loop-place
invariant-loop-place l = record {
  eight : length l.words ≡ 8;
  so_far : (k : ℕ) → k < l.place → (slice_index l.words k == 0) ≡ not (meets (slice_index_or l.sets k []) l.mask);
}
