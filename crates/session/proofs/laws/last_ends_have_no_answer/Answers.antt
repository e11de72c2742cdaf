use Rattle.session.proofs.ShutLaws.{answers-shut}
use Rattle.session.proofs.laws.last_ends_have_no_answer.Goals as goal

pub returns : goal.returns
returns c = answers-shut
