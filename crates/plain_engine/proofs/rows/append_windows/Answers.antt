use Rattle.std.proofs.Common.{sym, ◌∙◌, arith}
use Rattle.plain_engine.proofs.WalkLaws.{rows-next, rows-late, rows-none, start-next, next-from-low}
use Rattle.plain_engine.proofs.rows.append_windows.Goals as goal

pub loop-next-smaller : goal.loop-next-smaller
loop-next-smaller c =
    let low = next-from-low c.loop-next.k c.in-Some.next c.args.plan.now.win c.args.lefts.now (sym c.in-Some.ensures.value) in
    omega (arith, low)

pub loop-next-preserved : goal.loop-next-preserved
loop-next-preserved c =
    let p = c.args.plan.now in (
      start-next p.win c.in-Some.next c.requires.fits c.in-Some.ensures.start,
      rows-next p c.loop-next.k c.args.windows.end c.in-Some.next c.args.lefts.now c.args.rights.now c.loop-next.out.items c.append_window.new.out.items (sym c.in-Some.ensures.value) c.if-windows-next.false
          c.in_ok-append_window.ensures
          ∙ c.loop-next.invariant.1,
    )

pub returns-then-windows-next : goal.returns-then-windows-next
returns-then-windows-next c =
    rows-late c.args.plan.now c.loop-next.k c.args.windows.end c.in-Some.next c.args.lefts.now c.args.rights.now c.loop-next.out.items _ (sym c.in-Some.ensures.value) c.if-windows-next.true c.loop-next.invariant.1

pub returns-in_default : goal.returns-in_default
returns-in_default c =
    rows-none c.args.plan.now c.loop-next.k c.args.windows.end c.args.lefts.now c.args.rights.now c.loop-next.out.items _ (sym c.in_default.ensures.value) c.loop-next.invariant.1
