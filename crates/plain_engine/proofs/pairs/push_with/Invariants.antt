use Rattle.std.proofs.Common.{◌≡◌, ◌++◌, map, take}
use Rattle.views.specs.Pairs.{couple}
use Rattle.plain_engine.proofs.pairs.push_with.Given as goal

abbrev pub invariant-loop-right : goal.invariant-loop-right
invariant-loop-right l = l.couples.items ≡ l.initial.couples.items ++ map (couple l.left) (take l.right-index l.right-items)
