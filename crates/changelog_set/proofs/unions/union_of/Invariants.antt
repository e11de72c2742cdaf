use Rattle.std.proofs.Common.{◌≡◌, take}
use Rattle.changelog_set.specs.Sets.{union_of}
use Rattle.changelog_set.proofs.unions.union_of.Given as goal

-- the union of the sets up to here
abbrev pub invariant-loop-set : goal.invariant-loop-set
invariant-loop-set l = l.union ≡ union_of (take l.set-index l.sets)
