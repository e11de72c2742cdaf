use Rattle.std.proofs.Common.{ℕ, sym, ap, ◌∙◌, arith}
use Rattle.changelog.specs.Ends.{edge_after}
use Rattle.changelog.specs.EpochsFor.{spans_of}
use Rattle.changelog.specs.Spans.{holder_at}
use Rattle.changelog.proofs.EdgeLaws.{least_below-none, least_below-step, next-edges}
use Rattle.changelog.proofs.epochs.next_edges.Goals as goal

pub loop-slot-init : goal.loop-slot-init
loop-slot-init c = sym (least_below-none (λ (slot : ℕ). edge_after c.args.s c.args.t (holder_at (spans_of c.args.table.now slot) c.args.epoch)))

pub loop-slot-preserved : goal.loop-slot-preserved
loop-slot-preserved c =
    least_below-step (λ (slot : ℕ). edge_after c.args.s c.args.t (holder_at (spans_of c.args.table.now slot) c.args.epoch)) c.loop-slot.slot c.edge_after-edge.result c.loop-slot.next c.min-next.result
    c.min-next.ensures (c.edge_after-edge.ensures ∙ ap (edge_after c.args.s c.args.t) c.owner_in-holder.ensures) c.loop-slot.invariant

pub returns : goal.returns
returns c = next-edges c.args.table.now c.args.epoch c.args.s c.args.t c.loop-slot.slot c.loop-slot.next (omega (arith, c.loop-slot-test.false, c.loop-slot.auto.slot-end, c.min-slot-end.ensures)) c.loop-slot.invariant
