use Rattle.std.proofs.Common.{◌≡◌, take}
use Rattle.result_router.specs.Lent.{lent}
use Rattle.result_router.specs.Rows.{couples_of}
use Rattle.result_router.proofs.bodies.couples_of.Given as goal

abbrev pub invariant-loop-fragment : goal.invariant-loop-fragment
invariant-loop-fragment l = l.found.items ≡ couples_of (lent (take l.fragment-index l.fragments))
