use Rattle.std.proofs.Common.{◌≡◌, ◌++◌, map, take}
use Rattle.std.specs.List.{flat_map}
use Rattle.row_text.specs.RowText.{row_text}
use Rattle.result_router.specs.Rows.{couple_row}
use Rattle.result_router.proofs.rows.append_couples.Given as goal

abbrev pub invariant-loop-couple : goal.invariant-loop-couple
invariant-loop-couple l = l.out.items ≡ l.initial.out.items ++ flat_map row_text (map (couple_row l.plan l.start) (take l.couple-index l.couples))
