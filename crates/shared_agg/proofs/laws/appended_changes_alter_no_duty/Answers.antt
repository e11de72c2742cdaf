use Rattle.shared_agg.proofs.AggLaws.{AggsFor-push}
use Rattle.shared_agg.proofs.laws.appended_changes_alter_no_duty.Goals as goal

pub returns : goal.returns
returns c a cs change h = AggsFor-push a cs change h
