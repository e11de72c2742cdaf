use Rattle.as_words.proofs.WordLaws.{words_of-none}
use Rattle.as_words.proofs.words.Words.is_empty.Goals as goal

pub returns : goal.returns
returns c = rw (← c.self.view_is) (words_of-none c.self.inside.rest c.is_none.result c.is_none.ensures)
