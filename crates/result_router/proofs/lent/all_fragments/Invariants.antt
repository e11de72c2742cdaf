use Rattle.std.proofs.Common.{◌≡◌, take}
use Rattle.result_router.specs.Held.{fragments_of}
use Rattle.result_router.specs.Lent.{lent}
use Rattle.result_router.proofs.lent.all_fragments.Given as goal

abbrev pub invariant-loop-reply : goal.invariant-loop-reply
invariant-loop-reply l = lent l.all.items ≡ fragments_of (take l.reply-index l.held)
