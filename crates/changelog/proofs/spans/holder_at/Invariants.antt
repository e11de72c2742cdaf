use Rattle.std.proofs.Common.{◌≡◌, ◌≤◌, length, take}
use Rattle.changelog.specs.Spans.{holder_at}
use Rattle.changelog.proofs.spans.holder_at.Given as goal

-- the spans from here on began later
abbrev pub invariant-loop-left : goal.invariant-loop-left
invariant-loop-left l = (l.left ≤ length l.spans) × (holder_at l.spans l.epoch ≡ holder_at (take l.left l.spans) l.epoch)

abbrev pub decreases-loop-left : goal.decreases-loop-left
decreases-loop-left l = l.left
