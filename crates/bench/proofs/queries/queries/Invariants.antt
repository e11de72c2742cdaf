use Rattle.std.proofs.Common.{◌≡◌, ◌≤◌}
use Rattle.changelog.specs.EpochsFor.{last_of, newest}
use Rattle.bench.proofs.queries.queries.Given as goal

abbrev pub invariant-loop-slot : goal.invariant-loop-slot
invariant-loop-slot l = (newest l.epochs ≡ 0) × (last_of l.epochs ≤ l.slot) × (l.slot ≤ 512)
