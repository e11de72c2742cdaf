use Rattle.std.proofs.Common.{ℕ, sym, ap, ◌∙◌, arith}
use Rattle.changelog.specs.Changes.{edge_of}
use Rattle.changelog.specs.EpochsFor.{spans_of}
use Rattle.changelog.specs.Spans.{holder_at}
use Rattle.changelog.proofs.EdgeLaws.{greatest_below-none, greatest_below-step, last-edges}
use Rattle.changelog.proofs.epochs.last_edges.Goals as goal

pub loop-slot-init : goal.loop-slot-init
loop-slot-init c = sym (greatest_below-none (λ (slot : ℕ). edge_of c.args.s c.args.t (holder_at (spans_of c.args.table.now slot) c.args.epoch)))

pub loop-slot-preserved : goal.loop-slot-preserved
loop-slot-preserved c =
    greatest_below-step (λ (slot : ℕ). edge_of c.args.s c.args.t (holder_at (spans_of c.args.table.now slot) c.args.epoch)) c.loop-slot.slot c.edge_of-edge.result c.loop-slot.latest c.max-latest.result
    c.max-latest.ensures (c.edge_of-edge.ensures ∙ ap (edge_of c.args.s c.args.t) c.owner_in-holder.ensures) c.loop-slot.invariant

pub returns : goal.returns
returns c = last-edges c.args.table.now c.args.epoch c.args.s c.args.t c.loop-slot.slot c.loop-slot.latest (omega (arith, c.loop-slot-test.false, c.loop-slot.auto.slot-end, c.min-slot-end.ensures)) c.loop-slot.invariant
