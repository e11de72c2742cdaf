use Rattle.contents.specs.Past.{no_past}
use Rattle.contents.proofs.PastLaws.{IsPast-first}
use Rattle.contents.proofs.StepLaws.{IsPast-from}
use Rattle.contents.proofs.orderly_messages_make_pasts.Goals as goal

pub returns : goal.returns
returns c is_there ms = IsPast-from is_there no_past ms IsPast-first
