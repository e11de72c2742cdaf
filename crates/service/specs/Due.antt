-- When the calls of a log are all that is due for the items.
use Rattle.std.specs.Prelude.{◌≡◌, List}
use Rattle.as_base.specs.declared.config.Config.{Config}
use Rattle.as_base.specs.declared.item.Item.{Item}
use Rattle.as_outside.specs.declared.entry.Entry.{Entry}
use Rattle.as_outside.specs.Log.{said}
use Rattle.as_outside.specs.Failures.{say_failures}
use Rattle.as_outside.specs.Outputs.{AreOutputs}
use Rattle.session.specs.Book.{numbers}
use Rattle.session.specs.View.{text_of}
use Rattle.service.specs.AnswerText.{answers_text}

-- The log has what is due for the items: their answers were said and no say failed, and the outputs are theirs.
pub record IsDue (c : Config) (h : List Item) (log : List Entry) : Type 0 where
  pub answers : said log ≡ answers_text c h
  pub no_say_failed : say_failures log ≡ 0
  pub outputs : AreOutputs (numbers c h) (text_of c h) log
