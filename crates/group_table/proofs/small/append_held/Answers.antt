use Rattle.std.proofs.Common.{◌<◌, ◌++◌, ◌∷◌, [], length, get_or, take, sym, ap, ◌∙◌, append_assoc, arith}
use Rattle.group_table.specs.Held.{held, none}
use Rattle.group_table.proofs.MergeLaws.{entry-here, entry-passed}
use Rattle.group_table.proofs.small.append_held.Goals as goal
use Rattle.group_table.proofs.small.append_held.Goals.{then-entry-slot+in_ok-push, else-entry-slot}

pub loop-entry-preserved : goal.loop-entry-preserved
loop-entry-preserved c =
    let es = c.args.entries.now in
    let i = c.loop-entry.entry-index in
    let slot = c.args.slot in
    let old = c.args.cells.now.items in
    let low : i < length es = omega (arith, c.loop-entry-test.true) in
    elim c.if-entry-slot.branch [
      | then-entry-slot+in_ok-push w ↦
          ap (λ v. v.items) w.cells-is ∙ w.in_ok-push.ensures.items ∙ ap (λ l. l ++ (get_or es i none).cell ∷ []) c.loop-entry.invariant
          ∙ append_assoc old (held (take i es) slot) ((get_or es i none).cell ∷ []) ∙ ap (λ l. old ++ l) (sym (entry-here es i slot low w.if-entry-slot.true))
      | else-entry-slot w ↦ ap (λ v. v.items) w.cells-is ∙ c.loop-entry.invariant ∙ ap (λ l. old ++ l) (sym (entry-passed es i slot low w.if-entry-slot.false))
    ]
