use Rattle.query_plan.proofs.TextLaws.{is_text-canonical_text}
use Rattle.query_plan.proofs.laws.explained_plans_are_texts.Goals as goal

pub returns : goal.returns
returns c = is_text-canonical_text
