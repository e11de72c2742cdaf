use Rattle.std.proofs.Common.{sym}
use Rattle.box_lanes.proofs.IndexedLaws.{indexed-clear, indexed-none}
use Rattle.box_lanes.proofs.columns.Columns.clear.Goals as goal

pub invariant_of-self : goal.invariant_of-self
invariant_of-self c = indexed-none c.reset.new.self c.clear.new.self c.reset.ensures (c.is_empty.ensures c.if-is_empty.true)

pub invariant_of-self-else-not-is_whole : goal.invariant_of-self-else-not-is_whole
invariant_of-self-else-not-is_whole c =
    indexed-clear c.self.inside.indexes c.mark.new.self c.self.inside.blocks c.clear.new.self c.args.slot c.in-Some.b c.requires c.self.invariant (sym c.in-Some.ensures.value) c.clear.ensures.value c.mark.ensures
