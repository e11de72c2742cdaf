use Rattle.std.proofs.Common.{length, sym, ap, ◌∙◌, bit_and}
use Rattle.std.specs.Simd.Lanes.{mask_l}
use Rattle.queryset_lanes.specs.Words.{word_slots}
use Rattle.box_lanes.specs.Columns.{selected}
use Rattle.box_lanes.proofs.BlockLaws.{length-set_boxes, word_chosen, none_chosen}
use Rattle.box_lanes.proofs.block.Block.select.Goals as goal

pub returns-then-live-eq0-clause-slots : goal.returns-then-live-eq0-clause-slots
returns-then-live-eq0-clause-slots c = ap length (sym c.self.view_is) ∙ length-set_boxes c.self.inside.set c.self.inside.boxes c.self.invariant.1

pub returns-then-live-eq0-clause-value : goal.returns-then-live-eq0-clause-value
returns-then-live-eq0-clause-value c =
    none_chosen c.args.reads c.self.inside.set c.self.inside.boxes c.args.g.now c.self.invariant.0 c.ranges.reads.fits c.self.invariant.1 c.if-live-eq0.true
    ∙ ap (λ xs. mask_l (selected xs (word_slots c.args.reads) c.args.g.now)) c.self.view_is

pub returns-clause-slots : goal.returns-clause-slots
returns-clause-slots c = ap length (sym c.self.view_is) ∙ length-set_boxes c.self.inside.set c.self.inside.boxes c.self.invariant.1

pub returns-clause-value : goal.returns-clause-value
returns-clause-value c =
    ap (bit_and (bit_and c.args.reads c.self.inside.set)) c.holding.ensures.value
    ∙ word_chosen c.args.reads c.self.inside.set c.self.inside.boxes c.args.g.now c.self.invariant.0 c.ranges.reads.fits c.self.invariant.1
    ∙ ap (λ xs. mask_l (selected xs (word_slots c.args.reads) c.args.g.now)) c.self.view_is
