use Rattle.std.proofs.Common.{◌≡◌, ◌++◌, take}
use Rattle.result_router.specs.Lent.{lent}
use Rattle.result_router.proofs.lent.append_fragments.Given as goal

abbrev pub invariant-loop-fragment : goal.invariant-loop-fragment
invariant-loop-fragment l = lent l.all.items ≡ lent l.initial.all.items ++ take l.fragment-index l.fragments
