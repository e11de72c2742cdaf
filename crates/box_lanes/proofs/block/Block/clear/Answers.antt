use Rattle.std.proofs.Common.{◌*◌, ◌%◌, ◌^◌, length, set, sym, ap, ◌∙◌, None, bit_and, w64}
use Rattle.std.specs.Int.{bit_not}
use Rattle.queryset_lanes.proofs.Words.{word_slots-set_off}
use Rattle.box_lanes.proofs.BlockLaws.{length-set_boxes, set_boxes-off}
use Rattle.box_lanes.proofs.block.Block.clear.Goals as goal

pub returns-clause-slots : goal.returns-clause-slots
returns-clause-slots c = ap length (sym c.self.view_is) ∙ length-set_boxes c.self.inside.set c.self.inside.boxes c.self.invariant.1

pub returns-clause-value : goal.returns-clause-value
returns-clause-value c =
    let w = c.self.inside.set in
    let i = c.args.slot in
    set_boxes-off w (bit_and w (bit_not w64 (1 * 2 ^ i % 2 ^ 64))) c.self.inside.boxes i (word_slots-set_off w i c.requires)
    ∙ ap (λ xs. set xs i None) c.self.view_is
