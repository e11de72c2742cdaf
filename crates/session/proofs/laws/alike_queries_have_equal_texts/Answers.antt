use Rattle.row_text.proofs.TextLaws.{text_of-alike}
use Rattle.session.specs.View.{view}
use Rattle.session.proofs.laws.alike_queries_have_equal_texts.Goals as goal

pub returns : goal.returns
returns c = λ config other h k. text_of-alike (view config h) (view other k)
