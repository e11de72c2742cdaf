use Rattle.std.proofs.Common.{arith}
use Rattle.part_state.proofs.EvictLaws.{evict-step}
use Rattle.part_state.proofs.reader.evict_all.Goals as goal

pub loop-left-preserved : goal.loop-left-preserved
loop-left-preserved c = (
  (let l = c.loop-left.invariant.0 in omega (arith, l)),
  evict-step c.args.entries.now c.args.marks.now c.args.slices.now.stream c.args.slices.now.slices c.loop-left.left c.loop-left.slices c.evict_at.new.slices
      c.loop-left-test.true c.loop-left.invariant.0 c.loop-left.invariant.1 c.evict_at.ensures,
)
