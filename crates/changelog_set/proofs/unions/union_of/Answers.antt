use Rattle.changelog_set.proofs.SetLaws.{union_of-more}
use Rattle.changelog_set.proofs.unions.union_of.Goals as goal

pub loop-set-preserved : goal.loop-set-preserved
loop-set-preserved c =
    union_of-more c.args.sets.now c.loop-set.set-index c.loop-set.union c.set-item.result c.or-union.result
    c.loop-set-test.true c.set-item.is c.or-union.ensures.slots.1 c.loop-set.invariant c.or-union.ensures.value
