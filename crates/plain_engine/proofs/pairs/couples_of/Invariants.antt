use Rattle.std.proofs.Common.{◌≡◌, take}
use Rattle.views.specs.Pairs.{couples}
use Rattle.plain_engine.proofs.pairs.couples_of.Given as goal

abbrev pub invariant-loop-left : goal.invariant-loop-left
invariant-loop-left l = l.found.items ≡ couples (take l.left-index l.lefts) l.rights
