use Rattle.std.proofs.Common.{◌≡◌, ◌*◌, map, length, take, sym, ap, ◌∙◌, take_all, arith}
use Rattle.std.specs.Simd.Lanes.{mask_l}
use Rattle.as_base.specs.Query.{holds_all}
use Rattle.as_base.specs.declared.query.Bounds.{Bounds}
use Rattle.box_lanes.specs.Parts.{empty}
use Rattle.box_lanes.proofs.Lanes.{pair_more}
use Rattle.box_lanes.proofs.BoxLaws.{length-boxes_of}
use Rattle.box_lanes.proofs.boxes.Boxes.holding.Goals as goal

pub loop-pair-preserved : goal.loop-pair-preserved
loop-pair-preserved c =
    let h = λ (b : Bounds). holds_all b c.args.g.now in
    let k = 2 * c.loop-pair.pair in
    pair_more h c.args.self.now k empty c.loop-pair.word c.two.result (omega (arith, c.two.ensures.slots, c.loop-pair-test.true)) (omega (arith, c.loop-pair-test.true)) c.loop-pair.invariant c.two.ensures.value
    ∙ ap (λ n. mask_l (map h (take n c.args.self.now))) (omega arith)

pub returns-clause-slots : goal.returns-clause-slots
returns-clause-slots c = ap length (sym c.self.view_is) ∙ length-boxes_of c.self.inside.key c.self.inside.v1 c.self.inside.v2 c.self.inside.v3 c.self.inside.v4

pub returns-clause-value : goal.returns-clause-value
returns-clause-value c =
    let long : length c.args.self.now ≡ 64 = ap length (sym c.self.view_is) ∙ length-boxes_of c.self.inside.key c.self.inside.v1 c.self.inside.v2 c.self.inside.v3 c.self.inside.v4 in
    c.loop-pair.invariant ∙ ap (λ xs. mask_l (map (λ (b : Bounds). holds_all b c.args.g.now) xs)) (take_all (2 * c.loop-pair.pair) c.args.self.now (omega (arith, long, c.loop-pair-test.false)))
