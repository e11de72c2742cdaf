use Rattle.std.proofs.Common.{arith}
use Rattle.part_state.specs.Reader.{IsEvicted}
use Rattle.part_state.proofs.StandingLaws.{each-step}
use Rattle.part_state.proofs.state.evict_each.Goals as goal

pub loop-reader-preserved : goal.loop-reader-preserved
loop-reader-preserved c =
    each-step (IsEvicted c.args.entries.now c.args.marks.now) c.args.readers.now c.loop-reader.readers c.loop-reader.reader-index c.reader-item.result c.evict.new.self
    (let l = c.loop-reader-test.true in let e = c.loop-reader.auto.readers in omega (arith, l, e)) c.evict.ensures c.loop-reader.invariant

pub returns-clause-evicted : goal.returns-clause-evicted
returns-clause-evicted c = λ k d l.
    c.loop-reader.invariant.0 k d (let f = c.loop-reader-test.false in let e = c.loop-reader.auto.readers in omega (arith, l, f, e))
