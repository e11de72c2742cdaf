use Rattle.query_plan.proofs.MeaningLaws.{holds_all-bounds_of}
use Rattle.query_plan.proofs.laws.bounds_are_their_conditions.Goals as goal

pub returns : goal.returns
returns c = holds_all-bounds_of
