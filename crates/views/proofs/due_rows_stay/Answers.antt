use Rattle.std.proofs.Common.{◌∙◌, append-nil}
use Rattle.as_base.specs.declared.message.Msg.TheVariants as msg
use Rattle.views.specs.Rows.{due_to}
use Rattle.views.proofs.DueLaws.{due_by, due_to-after}
use Rattle.views.proofs.due_rows_stay.Goals as goal

pub returns-clause-stay : goal.returns-clause-stay
returns-clause-stay c = λ v m n is f. (due_by v m n, due_to-after v m n is f)

pub returns-clause-record_none : goal.returns-clause-record_none
returns-clause-record_none c = λ v r n is f. due_to-after v (msg.Rec r) n is f ∙ append-nil (due_to v n)

pub returns-clause-change_none : goal.returns-clause-change_none
returns-clause-change_none c = λ v x n is f. due_to-after v (msg.Change x) n is f ∙ append-nil (due_to v n)
