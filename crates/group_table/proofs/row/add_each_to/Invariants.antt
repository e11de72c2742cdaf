use Rattle.std.proofs.Common.{count_by}
use Rattle.group_table.proofs.RowLaws.{IsAdding}
use Rattle.group_table.proofs.row.add_each_to.Given as goal

-- the places of the slots that are left wait, and all others have the cell
abbrev pub invariant-slots : goal.invariant-slots
invariant-slots l = IsAdding l.initial.places l.places l.numbers l.slots l.left l.fn.cell l.fresh

abbrev pub decreases-slots : goal.decreases-slots
decreases-slots l = count_by (λ on. on) l.left
