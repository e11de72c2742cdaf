use Rattle.std.proofs.Common.{◌≡◌, ◌++◌, ◌-◌, ◌<◌, ◌^◌}
use Rattle.as_base.specs.Windows.{start_of}
use Rattle.plain_engine.specs.Walk.{rows_between, text_of_rows}
use Rattle.plain_engine.proofs.rows.append_windows.Given as goal

abbrev pub invariant-loop-next : goal.invariant-loop-next
invariant-loop-next l =
    (start_of l.plan.win l.k < 2 ^ 63)
    × (l.out.items ++ text_of_rows (rows_between l.plan l.k l.windows.end l.lefts l.rights)
    ≡ l.initial.out.items ++ text_of_rows (rows_between l.plan l.windows.start l.windows.end l.lefts l.rights))

abbrev pub decreases-loop-next : goal.decreases-loop-next
decreases-loop-next l = l.windows.end - l.k
