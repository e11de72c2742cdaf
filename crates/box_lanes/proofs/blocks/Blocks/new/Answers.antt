use Rattle.std.proofs.Common.{◌≡◌, None, replicate, ap, ◌∙◌, arith}
use Rattle.box_lanes.specs.Parts.{joined}
use Rattle.box_lanes.proofs.BlockLaws.{joined-new}
use Rattle.box_lanes.proofs.blocks.Blocks.new.Goals as goal

pub returns : goal.returns
returns c =
    let all : c.loop-place.place ≡ 8 = omega (arith, c.loop-place-test.false, c.loop-place.auto.place-end) in
    ap joined (c.loop-place.invariant ∙ ap (λ n. replicate n (replicate 64 None)) all) ∙ joined-new
