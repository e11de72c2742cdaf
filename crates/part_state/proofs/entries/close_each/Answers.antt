use Rattle.part_state.proofs.EntryLaws.{close-step}
use Rattle.part_state.proofs.entries.close_each.Goals as goal

pub loop-entry-preserved : goal.loop-entry-preserved
loop-entry-preserved c =
    close-step _ c.args.n c.args.at c.args.entries.now c.loop-entry.entries c.loop-entry.entry-index c.close.new.self
    c.loop-entry-test.true c.close.ensures c.loop-entry.invariant
