use Rattle.std.proofs.Common.{ap, ◌∙◌}
use Rattle.box_lanes.specs.Parts.{set_boxes}
use Rattle.box_lanes.proofs.BlockLaws.{set_boxes-new}
use Rattle.box_lanes.proofs.block.Block.new.Goals as goal

pub returns : goal.returns
returns c = ap (set_boxes 0) c.new-boxes.ensures ∙ set_boxes-new
