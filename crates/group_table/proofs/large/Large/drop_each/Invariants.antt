use Rattle.std.proofs.Common.{[], count_by}
use Rattle.group_table.specs.Grids.{cells_of}
use Rattle.group_table.proofs.EachLaws.{AreStepping}
use Rattle.group_table.proofs.large.Large.drop_each.Given as goal

-- the slots that are left have their cells, and the others of the set have none
abbrev pub invariant-slots : goal.invariant-slots
invariant-slots l = AreStepping (λ cs. []) (cells_of l.initial.self) (cells_of l.self) l.slots l.left

abbrev pub decreases-slots : goal.decreases-slots
decreases-slots l = count_by (λ on. on) l.left
