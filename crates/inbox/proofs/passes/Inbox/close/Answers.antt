use Rattle.std.proofs.Common.{sym, subst}
use Rattle.inbox.specs.Roles.{IsTally, AllFed, list_of}
use Rattle.inbox.specs.Sound.{IsSound}
use Rattle.inbox.proofs.Closing.{tallies, taken_fed}
use Rattle.inbox.proofs.passes.Inbox.close.Goals as goal

pub invariant_of-result : goal.invariant_of-result
invariant_of-result g c = record { tally = subst (IsTally c.count-left.result) (sym c.count-left.ensures.same) (tallies IsSound g.W.Watch.sees _ _ c.joined-pass.ensures.all c.count-left.ensures.count) }

pub returns-clause-fed : goal.returns-clause-fed
returns-clause-fed g c = subst (λ v. AllFed IsSound (list_of v 0)) (sym c.count-left.ensures.same) (taken_fed IsSound g.W.Watch.sees _ _ c.joined-pass.ensures.all c.count-left.ensures.count)
