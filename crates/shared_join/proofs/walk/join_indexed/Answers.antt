use Rattle.std.proofs.Common.{arith}
use Rattle.slice_store.specs.Placed.{placed}
use Rattle.shared_join.specs.Found.{nothing}
use Rattle.shared_join.proofs.WalkLaws.{join-more}
use Rattle.shared_join.proofs.walk.join_indexed.Goals as goal

pub loop-place-preserved : goal.loop-place-preserved
loop-place-preserved c =
    join-more c.args.turned c.args.mask.now c.args.ones.now c.args.others.now c.loop-place.place (placed c.at.result.0.now c.at.result.1.now) c.and.result
    (omega (arith, c.loop-place-test.true, c.len-place-end.ensures)) (c.at.ensures nothing) c.and.ensures.value
    c.args.pairs.now.items c.loop-place.pairs.items c.join_by_index.new.pairs.items c.loop-place.invariant c.in_ok-join_by_index.ensures
