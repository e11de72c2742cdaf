use Rattle.as_lineform.proofs.FrontLaws.{digits_moved}
use Rattle.as_lineform.proofs.digits.last_digits.Goals as goal

pub returns : goal.returns
returns c = λ bytes word digits. digits_moved c.args.count bytes c.args.word c.requires.some c.requires.few word digits
