use Rattle.std.proofs.Common.{◌*◌, ◌%◌, ◌^◌, ◌<◌, length, set, sym, ap, ◌∙◌, arith, Some, length-set, bit_or}
use Rattle.std.specs.Int.Bits.{or_lt}
use Rattle.queryset_lanes.proofs.Words.{word_slots-set_on}
use Rattle.box_lanes.specs.Parts.{set_boxes}
use Rattle.box_lanes.proofs.BlockLaws.{length-set_boxes, set_boxes-on}
use Rattle.box_lanes.proofs.block.Block.set.Goals as goal

pub invariant_of-self : goal.invariant_of-self
invariant_of-self c =
    let bit : 1 * 2 ^ c.args.slot % 2 ^ 64 < 2 ^ 64 = omega arith in (
      or_lt 64 c.self.inside.set (1 * 2 ^ c.args.slot % 2 ^ 64) c.self.invariant.0 bit,
      ap length c.put.ensures.value ∙ length-set c.self.inside.boxes c.from.result c.args.b.now ∙ c.self.invariant.1,
    )

pub returns-clause-slots : goal.returns-clause-slots
returns-clause-slots c = ap length (sym c.self.view_is) ∙ length-set_boxes c.self.inside.set c.self.inside.boxes c.self.invariant.1

pub returns-clause-value : goal.returns-clause-value
returns-clause-value c =
    let w = c.self.inside.set in
    let i = c.args.slot in
    let b = c.args.b.now in
    let word = bit_or w (1 * 2 ^ i % 2 ^ 64) in
    ap (set_boxes word) (c.put.ensures.value ∙ ap (λ n. set c.self.inside.boxes n b) c.from.ensures)
    ∙ set_boxes-on w word c.self.inside.boxes i b (word_slots-set_on w i c.requires)
    ∙ ap (λ xs. set xs i (Some b)) c.self.view_is
