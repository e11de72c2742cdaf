use Rattle.as_lineform.proofs.SpellingLaws.{item_of-item_text}
use Rattle.as_lineform.proofs.spelling.written_lines_are_read.Goals as goal

pub returns : goal.returns
returns c = item_of-item_text
