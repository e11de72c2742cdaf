use Rattle.std.proofs.Common.{◌≡◌, ℕ, ◌+◌, ◌-◌, ◌≤◌, max, length}
use Rattle.changelog.specs.EpochsFor.{spans_of}
use Rattle.changelog.proofs.epochs.fill.Given as goal

-- new slots have no owner, and there are no more than wanted
abbrev pub invariant-slots : goal.invariant-slots
invariant-slots l = ((other : ℕ) → spans_of l.table.items other ≡ spans_of l.initial.table.items other) × (length l.table.items ≤ max (length l.initial.table.items) (l.slot + 1))

abbrev pub decreases-slots : goal.decreases-slots
decreases-slots l = l.slot + 1 - length l.table.items
