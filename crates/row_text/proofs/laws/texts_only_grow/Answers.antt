use Rattle.std.proofs.Common.{◌∙◌, append-nil}
use Rattle.as_base.specs.declared.message.Msg.TheVariants as msg
use Rattle.views.proofs.DueLaws.{due_by}
use Rattle.row_text.specs.RowText.{text_of}
use Rattle.row_text.proofs.TextLaws.{text_of_rows, text_of-after}
use Rattle.row_text.proofs.laws.texts_only_grow.Goals as goal

pub returns-clause-grow : goal.returns-clause-grow
returns-clause-grow c = λ v m n is f. (text_of_rows (due_by v m n), text_of-after v m n is f)

pub returns-clause-record_none : goal.returns-clause-record_none
returns-clause-record_none c = λ v r n is f. text_of-after v (msg.Rec r) n is f ∙ append-nil (text_of v n)

pub returns-clause-change_none : goal.returns-clause-change_none
returns-clause-change_none c = λ v x n is f. text_of-after v (msg.Change x) n is f ∙ append-nil (text_of v n)
