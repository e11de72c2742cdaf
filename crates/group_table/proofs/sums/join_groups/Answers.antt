use Rattle.std.proofs.Common.{◌<◌, ◌∙◌, length, take, sym, subst, arith}
use Rattle.std.specs.List.{AllByRecursion}
use Rattle.group_table.specs.Cells.{IsSound, IsRising}
use Rattle.group_table.proofs.SumLaws.{rising-sums}
use Rattle.group_table.proofs.UpLaws.{sound-sums, order-step, few-step, done-step, rest-step}
use Rattle.group_table.proofs.sums.join_groups.Goals as goal

pub put_behind-kept-requires-clause-rising : goal.put_behind-kept-requires-clause-rising
put_behind-kept-requires-clause-rising c = subst IsRising (sym c.loop-next.invariant.done) (rising-sums (take c.loop-next.next c.args.cells.now.items))

pub put_behind-kept-requires-clause-order : goal.put_behind-kept-requires-clause-order
put_behind-kept-requires-clause-order c =
    let cs = c.args.cells.now.items in
    let long = c.loop-next.invariant.long in
    let low : c.loop-next.next < length cs = omega (arith, c.loop-next-test.true, c.len-next-end.ensures, c.args.cells.now.ok.0, c.loop-next.auto.next-end, long) in
    order-step cs c.loop-next.cells.items c.loop-next.next c.loop-next.kept c.index-cell.result.now low c.loop-next.invariant.rest c.index-cell.ensures c.loop-next.invariant.done c.requires.order

pub put_behind-kept-requires-clause-few : goal.put_behind-kept-requires-clause-few
put_behind-kept-requires-clause-few c =
    let cs = c.args.cells.now.items in
    let long = c.loop-next.invariant.long in
    let low : c.loop-next.next < length cs = omega (arith, c.loop-next-test.true, c.len-next-end.ensures, c.args.cells.now.ok.0, c.loop-next.auto.next-end, long) in
    few-step cs c.loop-next.cells.items c.loop-next.next c.loop-next.kept c.index-cell.result.now low c.loop-next.invariant.rest c.index-cell.ensures c.loop-next.invariant.done c.requires.few

pub put_behind-kept-requires-clause-held : goal.put_behind-kept-requires-clause-held
put_behind-kept-requires-clause-held c = subst (AllByRecursion IsSound) (sym c.loop-next.invariant.done) (sound-sums c.args.cells.now.items c.loop-next.next c.requires.sound)

pub loop-next-preserved : goal.loop-next-preserved
loop-next-preserved c =
    let cs = c.args.cells.now.items in
    let long = c.loop-next.invariant.long in
    let most = c.loop-next.invariant.most in
    let more = c.put_behind-kept.ensures.most in
    let low : c.loop-next.next < length cs = omega (arith, c.loop-next-test.true, c.len-next-end.ensures, c.args.cells.now.ok.0, c.loop-next.auto.next-end, long) in
    record {
      most = omega (arith, most, more);
      long = c.put_behind-kept.ensures.len ∙ long;
      done = done-step cs c.loop-next.cells.items c.loop-next.next c.loop-next.kept c.index-cell.result.now low c.loop-next.invariant.rest c.index-cell.ensures c.loop-next.invariant.done
          c.put_behind-kept.new.cells.items c.put_behind-kept.result c.put_behind-kept.ensures.value;
      rest = rest-step cs c.loop-next.cells.items c.loop-next.next c.loop-next.kept c.index-cell.result.now low c.loop-next.invariant.rest c.index-cell.ensures c.loop-next.invariant.done
          c.put_behind-kept.new.cells.items most c.put_behind-kept.ensures.rest;
    }
