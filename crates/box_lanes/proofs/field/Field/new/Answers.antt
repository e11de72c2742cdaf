use Rattle.std.proofs.Common.{pos}
use Rattle.box_lanes.proofs.BoxLaws.{intervals-new, IsField-new}
use Rattle.box_lanes.proofs.field.Field.new.Goals as goal

pub returns : goal.returns
returns c = intervals-new (pos 0)

pub invariant_of-result : goal.invariant_of-result
invariant_of-result c = IsField-new
