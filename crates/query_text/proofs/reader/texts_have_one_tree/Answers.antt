use Rattle.query_text.specs.Reading.{text_words}
use Rattle.query_text.proofs.TextLaws.{one_tree_told}
use Rattle.query_text.proofs.reader.texts_have_one_tree.Goals as goal

pub returns : goal.returns
returns c = λ text ast. one_tree_told (text_words text) ast
