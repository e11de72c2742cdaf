use Rattle.std.proofs.Common.{◌≡◌, take}
use Rattle.result_router.specs.Lent.{lent}
use Rattle.result_router.specs.Rows.{records_of}
use Rattle.result_router.proofs.bodies.records_of.Given as goal

abbrev pub invariant-loop-fragment : goal.invariant-loop-fragment
invariant-loop-fragment l = l.found.items ≡ records_of (lent (take l.fragment-index l.fragments))
