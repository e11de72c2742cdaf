use Rattle.std.proofs.Common.{◌≡◌, ◌++◌, map, take, drop}
use Rattle.shared_agg.specs.Duties.{marked}
use Rattle.shared_agg.proofs.duties.mark_all.Given as goal

abbrev pub invariant-loop-class : goal.invariant-loop-class
invariant-loop-class l = l.classes ≡ map (marked l.slot l.duty) (take l.class-index l.initial.classes) ++ drop l.class-index l.initial.classes
