use Rattle.std.proofs.Common.{refl}
use Rattle.as_lineform.proofs.DigitLaws.{number_of-digits}
use Rattle.as_lineform.proofs.digits.number_of.Goals as goal

pub returns : goal.returns
returns c = λ digits word below. number_of-digits digits c.args.values _ _ word below refl refl
