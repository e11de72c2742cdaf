use Rattle.std.proofs.Common.{count_by}
use Rattle.group_table.specs.Cells.{add_in, sums}
use Rattle.group_table.specs.Held.{held}
use Rattle.group_table.proofs.EachLaws.{AreStepping}
use Rattle.group_table.proofs.small.Small.add_each.Given as goal

-- the slots that are left wait, and all others have the cell
abbrev pub invariant-slots : goal.invariant-slots
invariant-slots l = AreStepping (λ cs. add_in cs l.fn.cell) (λ k. sums (held l.initial.self k)) (λ k. sums (held l.self k)) l.slots l.left

abbrev pub decreases-slots : goal.decreases-slots
decreases-slots l = count_by (λ on. on) l.left
