use Rattle.row_text.proofs.TextLaws.{text_of-alike}
use Rattle.row_text.proofs.laws.alike_queries_have_equal_texts.Goals as goal

pub returns : goal.returns
returns c = text_of-alike
