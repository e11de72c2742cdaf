use Rattle.std.proofs.Common.{◌≡◌, ◌++◌, None, length, drop, replicate}
use Rattle.result_router.proofs.router.empty_each.Given as goal

abbrev pub invariant-loop-part : goal.invariant-loop-part
invariant-loop-part l = l.held.items ≡ replicate l.part None ++ drop l.part l.initial.held.items
