use Rattle.std.proofs.Common.{◌≡◌, ◌≤◌, ◌-◌, ◌++◌, length, drop}
use Rattle.result_router.specs.Lent.{lent}
use Rattle.result_router.specs.Merge.{text_for}
use Rattle.result_router.proofs.pieces.text_of_sorted.Given as goal

abbrev pub invariant-loop-done : goal.invariant-loop-done
invariant-loop-done l = (l.done ≤ length l.fragments) × (l.text.items ++ text_for (lent (drop l.done l.fragments)) ≡ text_for (lent l.fragments))

abbrev pub decreases-loop-done : goal.decreases-loop-done
decreases-loop-done l = length l.fragments - l.done
