use Rattle.std.proofs.Common.{None, length, ap, ◌∙◌}
use Rattle.std.proofs.lemmas.List.{length-replicate}
use Rattle.result_router.proofs.HeldLaws.{nothing-sound}
use Rattle.result_router.proofs.router.forget_all.Goals as goal

pub returns-clause-sound : goal.returns-clause-sound
returns-clause-sound c = nothing-sound (length c.args.held.now.items) c.empty_each.new.held.items c.empty_each.ensures

pub returns-clause-len : goal.returns-clause-len
returns-clause-len c = ap length c.empty_each.ensures ∙ length-replicate (length c.args.held.now.items) None
