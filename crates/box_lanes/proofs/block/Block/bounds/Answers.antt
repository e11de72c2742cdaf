use Rattle.std.proofs.Common.{◌≡◌, ◌<◌, ℕ, eqb, cond, None, Some, get_or, sym, ap, length, ◌∙◌, arith}
use Rattle.std.specs.Int.{bit_at}
use Rattle.std.proofs.lemmas.Nat.Bits.{shr_and_one, bit_at-lt}
use Rattle.box_lanes.specs.Parts.{empty}
use Rattle.box_lanes.proofs.BlockLaws.{length-set_boxes, get_or-set_boxes}
use Rattle.box_lanes.proofs.block.Block.bounds.Goals as goal

pub returns-then-self-slot-eq0-clause-slots : goal.returns-then-self-slot-eq0-clause-slots
returns-then-self-slot-eq0-clause-slots c = ap length (sym c.self.view_is) ∙ length-set_boxes c.self.inside.set c.self.inside.boxes c.self.invariant.1

pub returns-then-self-slot-eq0-clause-value : goal.returns-then-self-slot-eq0-clause-value
returns-then-self-slot-eq0-clause-value c =
    let w = c.self.inside.set in
    let boxes = c.self.inside.boxes in
    let i = c.args.slot in
    let bit : bit_at w i ≡ 0 = sym (shr_and_one w i) ∙ c.if-self-slot-eq0.true in
    sym (ap (λ n. cond (eqb n 1) (Some (get_or boxes i empty)) None) bit)
    ∙ sym (get_or-set_boxes w boxes i c.self.invariant.1 c.requires)
    ∙ ap (λ xs. get_or xs i None) c.self.view_is

pub returns-clause-slots : goal.returns-clause-slots
returns-clause-slots c = ap length (sym c.self.view_is) ∙ length-set_boxes c.self.inside.set c.self.inside.boxes c.self.invariant.1

pub returns-clause-value : goal.returns-clause-value
returns-clause-value c =
    let w = c.self.inside.set in
    let boxes = c.self.inside.boxes in
    let i = c.args.slot in
    let bit : bit_at w i ≡ 1 = one (bit_at w i) (bit_at-lt w i) (λ e. c.if-self-slot-eq0.false (shr_and_one w i ∙ e)) in
    ap (λ b. Some b) (c.bounds.ensures.value ∙ ap (λ n. get_or boxes n empty) c.from.ensures)
    ∙ sym (ap (λ n. cond (eqb n 1) (Some (get_or boxes i empty)) None) bit)
    ∙ sym (get_or-set_boxes w boxes i c.self.invariant.1 c.requires)
    ∙ ap (λ xs. get_or xs i None) c.self.view_is
  where
    one : (n : ℕ) → n < 2 → ¬ (n ≡ 0) → n ≡ 1
    one n h not = omega (arith, h, not)
