use Rattle.std.proofs.Common.{sym, ◌∙◌, ap}
use Rattle.as_words.specs.Parts.{words_of}
use Rattle.as_words.proofs.PartLaws.{parts_of-Some, parts_of-None}
use Rattle.as_words.proofs.WordLaws.{first_of}
use Rattle.as_words.proofs.words.Words.peek.Goals as goal

pub returns-in-Some : goal.returns-in-Some
returns-in-Some c =
    rw (← c.self.view_is)
    (first_of _ _ _ (ap words_of c.in_ok-rest.was ∙ (parts_of-Some 32 c.in_ok-rest.rest.now c.in-Some.at (sym c.in-Some.ensures)).1))

pub returns-in-None : goal.returns-in-None
returns-in-None c = rw (← c.self.view_is) (first_of _ _ _ (ap words_of c.in_ok-rest.was ∙ parts_of-None 32 c.in_ok-rest.rest.now (sym c.in-None.ensures)))
