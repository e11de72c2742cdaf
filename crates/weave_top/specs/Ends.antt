-- How a weave ends, by all its calls on the shelf and the closed inbox: one definition by cases on its status.
use Rattle.std.specs.Prelude.{ℕ, ◌≡◌, ◌≢◌, ◌<◌, ◌⊎◌, Option, Some, None, List, [], length}
use Rattle.as_words.specs.Prefix.{IsPrefix}
use Rattle.as_base.specs.declared.config.Config.{Config}
use Rattle.as_base.specs.declared.item.Item.{Item}
use Rattle.as_outside.specs.declared.entry.Entry.{Entry}
use Rattle.as_outside.specs.declared.report.Status.{Status}
use Rattle.as_outside.specs.declared.report.Status.TheVariants as status
use Rattle.as_outside.specs.Failures.{say_failures, note_failures, pull_failures}
use Rattle.as_outside.specs.Outputs.{AreBroken}
use Rattle.inbox.specs.declared.load.Ending.{Ending}
use Rattle.inbox.specs.declared.load.Ending.TheVariants as ending
use Rattle.inbox.specs.declared.passes.Closed.{Closed}
use Rattle.inbox.specs.Passes.{closed_taken}
use Rattle.feeder.specs.Loads.{lines_of}
use Rattle.session.specs.Book.{numbers}
use Rattle.session.specs.View.{text_of}
use Rattle.session.specs.Shut.{shut}
use Rattle.service.specs.AnswerText.{answers_text, last_text}
use Rattle.service.specs.Processor.{IsFinished}
use Rattle.service.specs.Served.{IsUnspoken}
use Rattle.service.specs.Stop.{IsDueTo, IsUnsaid, IsHalted}
use Rattle.taker.specs.Journal.{IsJournal}
use Rattle.taker.specs.Woven.{IsLeftDue}
use Rattle.weave_top.specs.Interleave.{Interleaves, IsMixed}
use Rattle.weave_top.specs.Fed.{lines_by, ending_by}

-- The journal is all that the five offered: the lines of all of them were noted, each feeder's in its order.
pub record IsAll (journal : List Item) (closed : Closed) : Type 0 where
  pub taken : journal ≡ lines_of (closed_taken closed)
  pub mixed : Interleaves journal (lines_by closed)

-- Once all lines were noted, the last lines were not said whole: the last call is the say of them.
pub record IsLastUnsaid (c : Config) (count : ℕ) (broken : List ℕ) (journal : List Item) (closed : Closed) (calls : List Entry) : Type 0 where
  pub all : IsAll journal closed
  pub counted : count ≡ length journal
  pub unspoken : IsUnspoken (numbers c (shut c journal)) (text_of c (shut c journal)) (answers_text c journal) (last_text broken count) calls

-- Once all lines were noted, there was no memory for the ends of the streams or for the last lines.
pub record IsLeftAtEnd (c : Config) (count : ℕ) (journal : List Item) (closed : Closed) (calls : List Entry) : Type 0 where
  pub all : IsAll journal closed
  pub counted : count ≡ length journal
  pub halted : IsHalted c journal calls

-- What stands at the end of a weave that took so many lines, by its status.
abbrev pub StandsBy : Config → Status → ℕ → List ℕ → List Item → Closed → List Entry → Type 0
StandsBy c status.Done count broken journal closed calls = (broken ≡ []) × IsAll journal closed × IsFinished c count broken journal calls
StandsBy c status.OutputBroken count broken journal closed calls = (broken ≢ []) × IsAll journal closed × IsFinished c count broken journal calls
StandsBy c status.ReadFault count broken journal closed calls = IsLeftDue c count journal calls
StandsBy c status.TooLong count broken journal closed calls = IsLeftDue c count journal calls
StandsBy c status.JournalFault count broken journal closed calls = IsLeftDue c count journal calls
StandsBy c status.AnswerFault count broken journal closed calls = IsUnsaid c count journal calls ⊎ IsLastUnsaid c count broken journal closed calls
StandsBy c status.NoMemory count broken journal closed calls = IsDueTo c count journal calls ⊎ IsLeftAtEnd c count journal closed calls
StandsBy c status.Usage count broken journal closed calls = ⊥

-- each source was read to its end, within the limit
abbrev pub AllEndWhole : Closed → Type 0
AllEndWhole closed = (i : ℕ) → 0 < i → i < 6 → ending_by closed i ≡ Some ending.Whole

-- The feeder is named whose source ended so.
abbrev pub IsNamed : Ending → Option ℕ → Closed → Type 0
IsNamed e None closed = ⊥
IsNamed e (Some n) closed = (0 < n) × (n < 6) × (ending_by closed n ≡ Some e)

-- Which feeder a status names, and what it tells of the sources.
abbrev pub TellsOf : Status → Option ℕ → Closed → Type 0
TellsOf status.Done named closed = (named ≡ None) × AllEndWhole closed
TellsOf status.OutputBroken named closed = (named ≡ None) × AllEndWhole closed
TellsOf status.ReadFault named closed = IsNamed ending.ReadFault named closed
TellsOf status.TooLong named closed = IsNamed ending.TooLong named closed
TellsOf _ named closed = named ≡ None

-- how often a say failed, and a note, by the status
abbrev pub says_failed : Status → ℕ
says_failed status.AnswerFault = 1
says_failed _ = 0

abbrev pub notes_failed : Status → ℕ
notes_failed status.JournalFault = 1
notes_failed _ = 0

-- A weave ended so, after so many lines: these calls have a journal, before each note of which all was out that was due for
-- the items noted so far; it is the first of the lines taken, interleaves first lines of the five, and tells what stands.
pub record IsWoven (c : Config) (s : Status) (count : ℕ) (broken : List ℕ) (named : Option ℕ) (closed : Closed) (calls : List Entry) : Type 0 where
  pub journal : List Item
  pub noted : IsJournal c journal calls
  pub outputs_broken : AreBroken broken calls
  pub says : say_failures calls ≡ says_failed s
  pub notes : note_failures calls ≡ notes_failed s
  pub pulls : pull_failures calls ≡ 0
  pub taken : IsPrefix journal (lines_of (closed_taken closed))
  pub mixed : IsMixed named journal (lines_by closed)
  pub told : TellsOf s named closed
  pub stands : StandsBy c s count broken journal closed calls
