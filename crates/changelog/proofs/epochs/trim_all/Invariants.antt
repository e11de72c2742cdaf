use Rattle.std.proofs.Common.{◌≡◌, ℕ, ◌<◌, ◌≤◌, drop}
use Rattle.changelog.specs.EpochsFor.{spans_of}
use Rattle.changelog.specs.Spans.{holder_at, BeginAfter}
use Rattle.changelog.proofs.epochs.trim_all.Given as goal

-- all slots have the same owners from the epoch on, and those up to here no others but the first of these
abbrev pub invariant-loop-spans : goal.invariant-loop-spans
invariant-loop-spans l =
    ((slot e : ℕ) → l.epoch ≤ e → holder_at (spans_of l.table slot) e ≡ holder_at (spans_of l.initial.table slot) e)
    × ((slot : ℕ) → slot < l.spans-index → BeginAfter l.epoch (drop 1 (spans_of l.table slot)))
