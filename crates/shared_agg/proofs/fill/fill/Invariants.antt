use Rattle.shared_agg.specs.Fill.{IsFed}
use Rattle.shared_agg.proofs.FillLaws.{due_first}
use Rattle.shared_agg.proofs.fill.fill.Given as goal

-- the slots of the classes so far have the record
abbrev pub invariant-loop-place : goal.invariant-loop-place
invariant-loop-place l = IsFed l.initial.table l.table (due_first l.g l.set l.duties l.place)
