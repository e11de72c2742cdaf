use Rattle.net_core.proofs.ReplyPieceLaws.{replies-due}
use Rattle.net_core.proofs.ReplySoundLaws.{replies-sound}
use Rattle.net_core.proofs.merging.replies_make_what_is_due.Goals as goal

pub returns-clause-pieces : goal.returns-clause-pieces
returns-clause-pieces c = λ k h x wm fit short all within is. replies-due k h x wm fit all within is

pub returns-clause-sound : goal.returns-clause-sound
returns-clause-sound c = λ k h x wm fit short all within is test. replies-sound k h wm test short all
