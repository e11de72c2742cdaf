use Rattle.shared_agg.proofs.DutyLaws.{classes-none}
use Rattle.shared_agg.proofs.duties.Duties.new.Goals as goal

pub invariant_of-result : goal.invariant_of-result
invariant_of-result c = classes-none c.all_empty.result c.all_empty.ensures
