use Rattle.net_core.proofs.DueLaws.{due-pieces, due-text}
use Rattle.net_core.proofs.outputs_grow_by_what_is_due.Goals as goal

pub returns : goal.returns
returns c = record { pieces = due-pieces; text = due-text }
