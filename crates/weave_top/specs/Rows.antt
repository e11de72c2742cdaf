-- Worked weaves, evaluated on the definitions alone.
use Rattle.std.specs.Prelude.{ℕ, ◌≡◌, refl, Some, List, [], codes}
use Rattle.std.specs.Fmt.{digits}
use Rattle.as_base.specs.declared.config.Config.{Config}
use Rattle.as_lineform.specs.Lines.{items}
use Rattle.session.specs.View.{text_of}
use Rattle.session.specs.Shut.{shut}
use Rattle.service.specs.AnswerText.{answers_text}
use Rattle.weave_top.specs.Weaving.{weaving_of}

-- the configuration of a weave without words
abbrev usual : Config
usual = record { streams = 4; slots = 64; parts = 4; lane = 1024 }

-- what is said of a journal's lines
abbrev answered : List ℕ → List ℕ
answered journal = answers_text usual (items journal)

-- what output 1 holds in the end
abbrev held : List ℕ → List ℕ
held journal = text_of usual (shut usual (items journal)) 1

pub no_words : weaving_of [] ≡ Some (record { config = usual; limit = 1099511627776; room = 256 })
unfolding digits
no_words = refl

-- the creation comes before the records of feeder 1
abbrev created_first : List ℕ
created_first = codes "create select from a\nrec a 1 7 1 0 0 0\nrec b 3 7 3 0 0 0\nrec a 2 7 2 0 0 0\n"

pub answers_created_first : answered created_first ≡ codes "1 created 1 at 0\n"
unfolding digits
answers_created_first = refl

pub held_created_first : held created_first ≡ codes "1 7 1 0 0 0\n2 7 2 0 0 0\n"
unfolding digits
held_created_first = refl

-- it comes between them
abbrev created_between : List ℕ
created_between = codes "rec a 1 7 1 0 0 0\ncreate select from a\nrec a 2 7 2 0 0 0\nrec b 3 7 3 0 0 0\n"

pub answers_created_between : answered created_between ≡ codes "2 created 1 at 2\n"
unfolding digits
answers_created_between = refl

pub held_created_between : held created_between ≡ codes "2 7 2 0 0 0\n"
unfolding digits
held_created_between = refl
