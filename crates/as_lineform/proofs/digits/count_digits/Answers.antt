use Rattle.as_lineform.proofs.FrontLaws.{digits_counted}
use Rattle.as_lineform.proofs.digits.count_digits.Goals as goal

pub returns-clause-digits : goal.returns-clause-digits
returns-clause-digits c = λ bytes word. digits_counted bytes c.args.word word
