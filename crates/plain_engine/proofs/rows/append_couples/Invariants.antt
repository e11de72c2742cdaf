use Rattle.std.proofs.Common.{◌≡◌, ◌++◌, map, take}
use Rattle.views.specs.Rows.{pair_row}
use Rattle.plain_engine.specs.Walk.{text_of_rows}
use Rattle.plain_engine.proofs.rows.append_couples.Given as goal

abbrev pub invariant-loop-couple : goal.invariant-loop-couple
invariant-loop-couple l = l.out.items ≡ l.initial.out.items ++ text_of_rows (map (pair_row l.plan l.k) (take l.couple-index l.couples))
