use Rattle.std.proofs.Common.{◌≡◌, ◌≤◌, length, drop}
use Rattle.changelog.specs.Changes.{until}
use Rattle.changelog.proofs.epochs.count_until.Given as goal

-- the times from here on are later
abbrev pub invariant-loop-left : goal.invariant-loop-left
invariant-loop-left l = (l.left ≤ length l.times) × (until l.time (drop l.left l.times) ≡ 0)

abbrev pub decreases-loop-left : goal.decreases-loop-left
decreases-loop-left l = l.left
