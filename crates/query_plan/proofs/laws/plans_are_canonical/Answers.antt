use Rattle.query_plan.proofs.PlanLaws.{plans_are_canonical}
use Rattle.query_plan.proofs.laws.plans_are_canonical.Goals as goal

pub returns : goal.returns
returns c = plans_are_canonical
