use Rattle.query_text.specs.Reading.{text_words}
use Rattle.query_text.proofs.TextLaws.{one_place_told}
use Rattle.query_text.proofs.reader.faults_have_one_place.Goals as goal

pub returns : goal.returns
returns c = λ text k. one_place_told (text_words text) k
