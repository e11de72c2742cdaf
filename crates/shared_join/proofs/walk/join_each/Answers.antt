use Rattle.slice_store.specs.Placed.{placed}
use Rattle.shared_join.proofs.WalkLaws.{nothing-more}
use Rattle.shared_join.proofs.walk.join_each.Goals as goal

pub returns-then-is_empty : goal.returns-then-is_empty
returns-then-is_empty c =
    nothing-more c.args.turned c.is_empty.result (placed c.args.one.now c.args.set.now) c.args.others.now c.args.pairs.now.items c.is_empty.ensures.value c.if-is_empty.true
