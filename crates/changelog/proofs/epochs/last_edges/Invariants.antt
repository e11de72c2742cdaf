use Rattle.std.proofs.Common.{◌≡◌}
use Rattle.changelog.specs.Changes.{edge_of, greatest_below}
use Rattle.changelog.specs.EpochsFor.{spans_of}
use Rattle.changelog.specs.Spans.{holder_at}
use Rattle.changelog.proofs.epochs.last_edges.Given as goal

abbrev pub invariant-loop-slot : goal.invariant-loop-slot
invariant-loop-slot l = l.latest ≡ greatest_below (λ slot. edge_of l.s l.t (holder_at (spans_of l.table slot) l.epoch)) l.slot
