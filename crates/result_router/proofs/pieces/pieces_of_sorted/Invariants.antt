use Rattle.std.proofs.Common.{◌≡◌, ◌≤◌, ◌-◌, ◌++◌, length, drop}
use Rattle.result_router.specs.Lent.{lent}
use Rattle.result_router.specs.Merge.{pieces_of}
use Rattle.result_router.proofs.pieces.pieces_of_sorted.Given as goal

abbrev pub invariant-loop-done : goal.invariant-loop-done
invariant-loop-done l = (l.done ≤ length l.fragments) × (l.pieces.items ++ pieces_of (lent (drop l.done l.fragments)) ≡ pieces_of (lent l.fragments))

abbrev pub decreases-loop-done : goal.decreases-loop-done
decreases-loop-done l = length l.fragments - l.done
