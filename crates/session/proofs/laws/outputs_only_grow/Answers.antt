use Rattle.session.proofs.OutputLaws.{text-grows}
use Rattle.session.proofs.laws.outputs_only_grow.Goals as goal

pub returns : goal.returns
returns c = text-grows
