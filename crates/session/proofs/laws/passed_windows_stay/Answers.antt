use Rattle.session.proofs.OutputLaws.{windows-stay}
use Rattle.session.proofs.laws.passed_windows_stay.Goals as goal

pub returns : goal.returns
returns c = windows-stay
