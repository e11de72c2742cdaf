use Rattle.std.proofs.Common.{◌≡◌, ◌≤◌, length}
use Rattle.slice_store.specs.Slices.{store}
use Rattle.contents.specs.Past.{mark_of}
use Rattle.part_state.specs.Waiting.{stays}
use Rattle.part_state.proofs.EvictLaws.{swept}
use Rattle.part_state.proofs.reader.evict_all.Given as goal

abbrev pub invariant-loop-left : goal.invariant-loop-left
invariant-loop-left l =
    (l.left ≤ length l.initial.slices.slices)
    × (l.slices ≡ store l.initial.slices.stream (swept (stays l.entries l.marks (mark_of l.marks l.initial.slices.stream)) l.left l.initial.slices.slices))

abbrev pub decreases-loop-left : goal.decreases-loop-left
decreases-loop-left l = l.left
