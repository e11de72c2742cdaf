use Rattle.as_lineform.proofs.DigitLaws.{values_are_digits}
use Rattle.as_lineform.proofs.digits.values_of.Goals as goal

pub returns : goal.returns
returns c = λ bytes word. values_are_digits bytes c.args.word word c.if-word-ne-ZEROS.false c.if-values-ne0.false
