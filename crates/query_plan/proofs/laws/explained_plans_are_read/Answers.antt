use Rattle.query_plan.proofs.TextLaws.{plan_of-canonical_text}
use Rattle.query_plan.proofs.laws.explained_plans_are_read.Goals as goal

pub returns : goal.returns
returns c = plan_of-canonical_text
