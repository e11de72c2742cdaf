use Rattle.std.proofs.Common.{◌≡◌}
use Rattle.changelog.specs.Ends.{edge_after, least_below}
use Rattle.changelog.specs.EpochsFor.{spans_of}
use Rattle.changelog.specs.Spans.{holder_at}
use Rattle.changelog.proofs.epochs.next_edges.Given as goal

abbrev pub invariant-loop-slot : goal.invariant-loop-slot
invariant-loop-slot l = l.next ≡ least_below (λ slot. edge_after l.s l.t (holder_at (spans_of l.table slot) l.epoch)) l.slot
