use Rattle.std.proofs.Common.{◌≡◌, ◌++◌, map, take}
use Rattle.as_base.specs.declared.row.Row.TheVariants.{Sel}
use Rattle.plain_engine.specs.Walk.{text_of_rows}
use Rattle.plain_engine.proofs.rows.append_selected.Given as goal

abbrev pub invariant-loop-given : goal.invariant-loop-given
invariant-loop-given l = l.out.items ≡ l.initial.out.items ++ text_of_rows (map (λ g. Sel g) (take l.given-index l.records))
