use Rattle.as_lineform.proofs.SpellingLaws.{IsSpelled-words}
use Rattle.as_lineform.proofs.item.item_of.Goals as goal

pub returns-in-None-clause-range : goal.returns-in-None-clause-range
returns-in-None-clause-range c = rw (c.unwrap_or.ensures, c.item_of_words.ensures) (IsSpelled-words c.new.result)
