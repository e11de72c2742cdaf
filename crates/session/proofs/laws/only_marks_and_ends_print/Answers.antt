use Rattle.session.proofs.OutputLaws.{text-quiet}
use Rattle.session.proofs.laws.only_marks_and_ends_print.Goals as goal

pub returns : goal.returns
returns c = text-quiet
