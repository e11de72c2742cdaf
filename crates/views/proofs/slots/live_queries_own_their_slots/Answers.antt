use Rattle.views.proofs.SlotLaws.{owner-live, owner-alone}
use Rattle.views.proofs.slots.live_queries_own_their_slots.Goals as goal

pub returns-clause-first : goal.returns-clause-first
returns-clause-first c = owner-live

pub returns-clause-each : goal.returns-clause-each
returns-clause-each c = owner-alone
