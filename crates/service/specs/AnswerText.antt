-- The text of answers, and the last lines of a run.
use Rattle.std.specs.Prelude.{ℕ, Option, Some, None, List, [], ◌++◌, codes, decimal}
use Rattle.std.specs.List.{flat_map}
use Rattle.as_base.specs.declared.config.Config.{Config}
use Rattle.as_base.specs.declared.item.Item.{Item}
use Rattle.as_base.specs.declared.answer.Answer.{Answer}
use Rattle.as_lineform.specs.Answer.{answer_text}
use Rattle.session.specs.Answers.{answers}

-- the text of an answer, if there is one
abbrev pub answered_text : Option Answer → List ℕ
answered_text None = []
answered_text (Some a) = answer_text a

-- The text of the answers to all items, in order.
abbrev pub answers_text : Config → List Item → List ℕ
answers_text c h = flat_map answer_text (answers c h)

-- the last line of a run that took this many lines
abbrev pub done_text : ℕ → List ℕ
done_text lines = codes "done " ++ decimal lines ++ codes "\n"

-- the line that says that an output is broken
abbrev pub broken_text : ℕ → List ℕ
broken_text n = codes "broken " ++ decimal n ++ codes "\n"

-- The last lines of a run: one for each broken output, and the last.
abbrev pub last_text : List ℕ → ℕ → List ℕ
last_text broken lines = flat_map broken_text broken ++ done_text lines
