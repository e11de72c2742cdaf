-- What a processor and the calls so far stand for.
use Rattle.std.specs.Prelude.{ℕ, ◌≡◌, List, [], ◌∷◌, ◌++◌, length}
use Rattle.as_words.specs.Prefix.{IsPrefix}
use Rattle.as_base.specs.declared.config.Config.{Config}
use Rattle.as_base.specs.declared.item.Item.{Item}
use Rattle.as_base.specs.declared.answer.Fed.{Fed}
use Rattle.as_outside.specs.declared.entry.Entry.{Entry}
use Rattle.as_outside.specs.Log.{said}
use Rattle.as_outside.specs.Failures.{say_failures}
use Rattle.as_outside.specs.Outputs.{AreOutputs, AreListed}
use Rattle.session.specs.Book.{numbers}
use Rattle.session.specs.View.{text_of}
use Rattle.session.specs.Answers.{answers}
use Rattle.session.specs.Shut.{shut}
use Rattle.session.specs.Outcome.{IsFed}
use Rattle.service.specs.declared.engine.QueryEngine as engine
use Rattle.service.specs.declared.processor.Processor.{Processor}
use Rattle.service.specs.declared.stop.Stop.{Stop}
use Rattle.service.specs.declared.stop.Stop.TheVariants.{NoMemory}
use Rattle.service.specs.AnswerText.{answered_text, answers_text, last_text}
use Rattle.service.specs.Due.{IsDue}

-- the outputs that broke
abbrev pub broken_in : {E : Type 0} → Processor E → List ℕ
broken_in p = p.broken.numbers.items

-- So many lines were counted, the calls have all that is due for the items, and the broken outputs are listed.
pub record IsLeft {E : Type 0} (c : Config) (p : Processor E) (lines : ℕ) (h : List Item) (calls : List Entry) : Type 0 where
  pub counted : p.lines ≡ lines
  pub due : IsDue c h calls
  pub listed : AreListed (broken_in p) calls

-- There was no memory for the end of a stream: what stood before it stands.
abbrev pub IsLeftBefore : {E : Type 0} → Config → Processor E → ℕ → List Item → Stop → List Entry → Type 0
IsLeftBefore c p lines h s calls = (s ≡ NoMemory) × IsLeft c p lines h calls

-- The items were processed, of which so many are lines: the engine stands for them too.
pub record HasTaken {E : Type 0} (e : engine.Ghosts E) (c : Config) (p : Processor E) (lines : ℕ) (h : List Item) (calls : List Entry) : Type 0 where
  pub config : e.config p.engine ≡ c
  pub stands : e.stands p.engine h
  pub left : IsLeft c p lines h calls

-- There was no memory for one of the ends that follow the items: those before it were processed.
pub record IsLeftAmongEnds {E : Type 0} (c : Config) (p : Processor E) (lines : ℕ) (h : List Item) (s : Stop) (calls : List Entry) : Type 0 where
  pub reason : s ≡ NoMemory
  pub front : List Item
  pub past : IsPrefix h front
  pub part : IsPrefix front (shut c h)
  pub silent : answers c front ≡ answers c h
  pub left : IsLeft c p lines front calls

-- The same of items that are all lines.
abbrev pub HasProcessed : {E : Type 0} → engine.Ghosts E → Config → Processor E → List Item → List Entry → Type 0
HasProcessed e c p h calls = HasTaken e c p (length h) h calls

-- One more item was taken and all memory for it was had; what it brings about is yet to be delivered.
pub record HasPrepared {E : Type 0} (e : engine.Ghosts E) (c : Config) (p : Processor E) (h : List Item) (x : Item) (fed : Fed) : Type 0 where
  pub stands : e.stands p.engine (h ++ x ∷ [])
  pub counted : p.lines ≡ length (h ++ x ∷ [])
  pub is_fed : IsFed c h x fed
  pub text : p.text.items ≡ answered_text fed.answer

-- The items were processed to the end of the input: the outputs are those of the ended streams, the broken ones are
-- listed, and the last lines are said.
pub record IsFinished (c : Config) (count : ℕ) (broken : List ℕ) (h : List Item) (calls : List Entry) : Type 0 where
  pub counted : count ≡ length h
  pub answers : said calls ≡ answers_text c h ++ last_text broken count
  pub no_say_failed : say_failures calls ≡ 0
  pub outputs : AreOutputs (numbers c (shut c h)) (text_of c (shut c h)) calls
  pub listed : AreListed broken calls
