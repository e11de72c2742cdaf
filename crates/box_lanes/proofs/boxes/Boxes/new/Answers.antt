use Rattle.std.proofs.Common.{◌∙◌}
use Rattle.box_lanes.specs.Parts.{boxes_of}
use Rattle.box_lanes.proofs.BoxLaws.{boxes_of-new}
use Rattle.box_lanes.proofs.boxes.Boxes.new.Goals as goal

pub returns : goal.returns
returns c = (λ t. boxes_of (c.new-key.ensures t) (c.new-v1.ensures t) (c.new-v2.ensures t) (c.new-v3.ensures t) (c.new-v4.ensures t)) ∙ boxes_of-new
