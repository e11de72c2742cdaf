use Rattle.std.proofs.Common.{◌≡◌, take}
use Rattle.result_router.specs.Lent.{lent}
use Rattle.result_router.specs.Rows.{cells_of}
use Rattle.result_router.proofs.bodies.cells_of.Given as goal

abbrev pub invariant-loop-fragment : goal.invariant-loop-fragment
invariant-loop-fragment l = l.found.items ≡ cells_of (lent (take l.fragment-index l.fragments))
