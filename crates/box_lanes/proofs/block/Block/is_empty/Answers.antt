use Rattle.std.proofs.Common.{◌≡◌, sym, ap, ◌∙◌}
use Rattle.std.proofs.lemmas.Bool.{eqb-true}
use Rattle.box_lanes.specs.Parts.{set_boxes}
use Rattle.box_lanes.proofs.BlockLaws.{set_boxes-none}
use Rattle.box_lanes.proofs.block.Block.is_empty.Goals as goal

pub returns : goal.returns
returns c =
    λ e.
    let none : c.self.inside.set ≡ 0 = eqb-true c.self.inside.set 0 e in
    sym c.self.view_is ∙ ap (λ w. set_boxes w c.self.inside.boxes) none ∙ set_boxes-none c.self.inside.boxes c.self.invariant.1
