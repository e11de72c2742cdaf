use Rattle.std.proofs.Common.{◌<◌, ◌^◌, subst, sym, arith}
use Rattle.group_table.specs.Cells.{count_at}
use Rattle.shared_agg.specs.Fill.{due}
use Rattle.shared_agg.proofs.FillLaws.{first-none, first-all, mine-waits, class-fed, class-partly, fed-partly}
use Rattle.shared_agg.proofs.fill.fill.Goals as goal

pub loop-place-init : goal.loop-place-init
loop-place-init c = first-none c.args.g.now c.args.set.now c.args.duties.now c.args.table.now

pub add_class_at-requires-clause-few : goal.add_class_at-requires-clause-few
add_class_at-requires-clause-few c = λ slot group mine.
    subst (λ l. count_at l group < 2 ^ 62)
    (sym (mine-waits c.args.g.now c.args.set.now c.args.duties.now c.loop-place.place (omega (arith, c.loop-place-test.true)) c.args.table.now c.loop-place.table c.loop-place.invariant slot mine))
    (c.requires slot group)

pub returns-in_err-add_class_at-clause-partly : goal.returns-in_err-add_class_at-clause-partly
returns-in_err-add_class_at-clause-partly c =
    class-partly c.args.g.now c.args.set.now c.args.duties.now c.loop-place.place (omega (arith, c.loop-place-test.true)) c.args.table.now c.loop-place.table c.loop-place.invariant
    c.add_class_at.new.table c.in_err-add_class_at.ensures.err

pub loop-place-preserved : goal.loop-place-preserved
loop-place-preserved c =
    class-fed c.args.g.now c.args.set.now c.args.duties.now c.loop-place.place (omega (arith, c.loop-place-test.true)) c.args.table.now c.loop-place.table c.loop-place.invariant
    c.add_class_at.new.table c.in_ok-add_class_at.ensures.ok

pub returns-clause-fed : goal.returns-clause-fed
returns-clause-fed c =
    first-all c.args.g.now c.args.set.now c.args.duties.now c.loop-place.place (omega (arith, c.loop-place-test.false)) c.args.table.now c.loop-place.table c.loop-place.invariant

pub returns-clause-partly : goal.returns-clause-partly
returns-clause-partly c =
    fed-partly c.args.table.now c.loop-place.table (due c.args.g.now c.args.set.now c.args.duties.now)
    (first-all c.args.g.now c.args.set.now c.args.duties.now c.loop-place.place (omega (arith, c.loop-place-test.false)) c.args.table.now c.loop-place.table c.loop-place.invariant)
