-- What calls come to that go on, or that are stopped.
use Rattle.std.specs.Prelude.{ℕ, ◌≡◌, ◌≤◌, ◌<◌, ◌+◌, Result, Ok, Err, Some, List, [], ◌∷◌, ◌++◌, length, take}
use Rattle.as_words.specs.Prefix.{IsPrefix}
use Rattle.as_base.specs.declared.config.Config.{Config}
use Rattle.as_base.specs.declared.item.Item.{Item}
use Rattle.as_base.specs.declared.answer.Answer.{Answer}
use Rattle.as_lineform.specs.Answer.{answer_text}
use Rattle.as_outside.specs.declared.entry.Entry.{Entry}
use Rattle.as_outside.specs.Entries.{HasNo}
use Rattle.as_outside.specs.Log.{said, is_cue}
use Rattle.as_outside.specs.Failures.{say_failures}
use Rattle.as_outside.specs.Makes.{Seen, Does}
use Rattle.as_outside.specs.Outputs.{AreOutputs, AreListed}
use Rattle.session.specs.Book.{numbers}
use Rattle.session.specs.View.{text_of}
use Rattle.session.specs.Answers.{answer_to}
use Rattle.session.specs.Shut.{shut}
use Rattle.service.specs.declared.stop.Stop.{Stop}
use Rattle.service.specs.declared.stop.Stop.TheVariants as stop
use Rattle.service.specs.AnswerText.{answers_text, last_text}
use Rattle.service.specs.Due.{IsDue}
use Rattle.service.specs.Served.{IsUnspoken}

-- After these calls some more are made, none of them a cue, and all together have P.
abbrev pub Continues : Seen → Seen → List Entry → (List Entry → Type 0) → Type 0
Continues old new calls P = Does old new (λ more. HasNo is_cue more × P (calls ++ more))

-- At Ok the calls have P, and at a stop what it says of them.
abbrev pub Goes : {X : Type 0} → Result X Stop → (List Entry → Type 0) → (Stop → List Entry → Type 0) → List Entry → Type 0
Goes (Ok x) P Q calls = P calls
Goes (Err s) P Q calls = Q s calls

-- A say of these bytes, of which there are some, failed: the one say that did.
pub record IsCutShort (numbers : List ℕ) (text : ℕ → List ℕ) (spoken wanted broken : List ℕ) (s : Stop) (calls : List Entry) : Type 0 where
  pub reason : s ≡ stop.AnswerFault
  pub some : 0 < length wanted
  pub unspoken : IsUnspoken numbers text spoken wanted calls
  pub listed : AreListed broken calls
  pub once : say_failures calls ≡ 1

-- All that is due for so many of the items is out.
pub record IsDueTo (c : Config) (lines : ℕ) (h : List Item) (calls : List Entry) : Type 0 where
  pub within : lines ≤ length h
  pub due : IsDue c (take lines h) calls

-- The answer to one of the items, so many in, was not said whole: the outputs are those of the items up to it, the answers
-- before it were said, and then a prefix of its own text by the call that failed.
pub record IsUnsaid (c : Config) (lines : ℕ) (h : List Item) (calls : List Entry) : Type 0 where
  pub before : List Item
  pub item : Item
  pub behind : List Item
  pub all : h ≡ before ++ item ∷ behind
  pub counted : lines ≡ length before + 1
  pub answer : Answer
  pub answered : answer_to c before item ≡ Some answer
  pub unspoken : IsUnspoken (numbers c (before ++ item ∷ [])) (text_of c (before ++ item ∷ [])) (answers_text c before) (answer_text answer) calls

-- how many says failed at the stop
abbrev pub unsaid_at : Stop → ℕ
unsaid_at stop.AnswerFault = 1
unsaid_at _ = 0

-- What stands where the lines of these items were stopped, by the reason. No pull is made here.
abbrev pub StandsAt : Config → Stop → ℕ → List Item → List Entry → Type 0
StandsAt c stop.NoMemory lines h calls = IsDueTo c lines h calls
StandsAt c stop.AnswerFault lines h calls = IsUnsaid c lines h calls
StandsAt c _ lines h calls = ⊥

-- The lines of these items were stopped: the broken outputs are listed, and what is out stands by the reason.
pub record IsStopped (c : Config) (s : Stop) (lines : ℕ) (broken : List ℕ) (h : List Item) (calls : List Entry) : Type 0 where
  pub listed : AreListed broken calls
  pub unsaid : say_failures calls ≡ unsaid_at s
  pub stands : StandsAt c s lines h calls

-- There was no memory for the ends that follow the items, or for the last lines: the outputs are those of the items and of
-- some of the ends, and the answers to the items were said.
pub record IsHalted (c : Config) (h : List Item) (calls : List Entry) : Type 0 where
  pub front : List Item
  pub past : IsPrefix h front
  pub part : IsPrefix front (shut c h)
  pub outputs : AreOutputs (numbers c front) (text_of c front) calls
  pub answers : said calls ≡ answers_text c h

-- What stands where the ends after all these items, or the last lines, were stopped.
abbrev pub StandsAtEnd : Config → Stop → ℕ → List ℕ → List Item → List Entry → Type 0
StandsAtEnd c stop.NoMemory lines broken h calls = IsHalted c h calls
StandsAtEnd c stop.AnswerFault lines broken h calls = IsUnspoken (numbers c (shut c h)) (text_of c (shut c h)) (answers_text c h) (last_text broken lines) calls
StandsAtEnd c _ lines broken h calls = ⊥

-- The ends that follow these items, or the last lines, were stopped.
pub record IsStoppedAtEnd (c : Config) (s : Stop) (lines : ℕ) (broken : List ℕ) (h : List Item) (calls : List Entry) : Type 0 where
  pub listed : AreListed broken calls
  pub unsaid : say_failures calls ≡ unsaid_at s
  pub counted : lines ≡ length h
  pub stands : StandsAtEnd c s lines broken h calls
