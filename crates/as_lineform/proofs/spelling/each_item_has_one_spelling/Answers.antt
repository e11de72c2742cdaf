use Rattle.as_lineform.proofs.SpellingLaws.{one_spelling, long_lines}
use Rattle.as_lineform.proofs.spelling.each_item_has_one_spelling.Goals as goal

pub returns-clause-one : goal.returns-clause-one
returns-clause-one c = one_spelling

pub returns-clause-long : goal.returns-clause-long
returns-clause-long c = long_lines
