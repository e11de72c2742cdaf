use Rattle.std.proofs.Common.{◌≡◌, ◌++◌, map, take, drop}
use Rattle.queryset_lanes.specs.Slots.{both}
use Rattle.queryset_lanes.proofs.mask_all.Given as goal

abbrev pub invariant-loop-set : goal.invariant-loop-set
invariant-loop-set l = l.sets ≡ map (λ set. both set l.mask) (take l.set-index l.initial.sets) ++ drop l.set-index l.initial.sets
