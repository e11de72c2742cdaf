use Rattle.box_lanes.proofs.IndexedLaws.{indexed-none}
use Rattle.box_lanes.proofs.columns.Columns.with_room.Goals as goal

pub invariant_of-result : goal.invariant_of-result
invariant_of-result c = indexed-none c.in_ok-indexes.indexes c.in_ok-blocks.blocks c.in_ok-indexes.ensures c.in_ok-blocks.ensures
