use Rattle.std.proofs.Common.{◌≡◌, ◌≤◌, length, drop}
use Rattle.changelog.specs.Spans.{BeginAfter}
use Rattle.changelog.proofs.spans.trim.Given as goal

-- the spans from here on began after the epoch
abbrev pub invariant-loop-left : goal.invariant-loop-left
invariant-loop-left l = (l.spans.items ≡ l.initial.spans.items) × (l.left ≤ length l.spans.items) × BeginAfter l.epoch (drop l.left l.spans.items)

abbrev pub decreases-loop-left : goal.decreases-loop-left
decreases-loop-left l = l.left
