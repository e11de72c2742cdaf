-- How a run ends, by all its calls: one definition by cases on its status.
use Rattle.std.specs.Prelude.{ℕ, ◌≡◌, ◌≢◌, ◌≤◌, ◌+◌, ◌⊎◌, List, [], ◌∷◌, ◌++◌, length, take}
use Rattle.as_base.specs.declared.config.Config.{Config}
use Rattle.as_outside.specs.declared.entry.Entry.{Entry}
use Rattle.as_outside.specs.declared.entry.Entry.TheVariants.{Pulled, PullFailed}
use Rattle.as_outside.specs.declared.report.Status.{Status}
use Rattle.as_outside.specs.declared.report.Status.TheVariants as status
use Rattle.as_outside.specs.Log.{is_pull, pulled, said}
use Rattle.as_outside.specs.Entries.{HasNo}
use Rattle.as_outside.specs.Failures.{EndsWith, say_failures, pull_failures, note_failures}
use Rattle.as_outside.specs.Outputs.{AreOutputs, AreBroken}
use Rattle.as_lineform.specs.Lines.{lines, items}
use Rattle.session.specs.Book.{numbers}
use Rattle.session.specs.View.{text_of}
use Rattle.session.specs.Shut.{shut}
use Rattle.service.specs.AnswerText.{answers_text, last_text}
use Rattle.service.specs.Due.{IsDue}
use Rattle.service.specs.Served.{IsUnspoken}
use Rattle.service.specs.Stop.{IsDueTo, IsUnsaid, IsHalted}
use Rattle.astream_top.specs.Prompt.{Prompt}

-- the last pull found the end of input
abbrev pub ReachesEnd : List Entry → Type 0
ReachesEnd calls = (before : List Entry) × (after : List Entry) × (calls ≡ before ++ Pulled [] ∷ after) × HasNo is_pull after

-- The run took this many lines, which are all of an input within the limit: the outputs are those of the ended streams, and
-- all answers and the last lines were said.
pub record IsWhole (c : Config) (limit count : ℕ) (broken : List ℕ) (calls : List Entry) : Type 0 where
  pub ended : ReachesEnd calls
  pub fits : length (pulled calls) ≤ limit
  pub all_lines : count ≡ length (items (pulled calls))
  pub said : said calls ≡ answers_text c (items (pulled calls)) ++ last_text broken count
  pub outputs : AreOutputs (numbers c (shut c (items (pulled calls)))) (text_of c (shut c (items (pulled calls)))) calls

-- The byte after the limit was pulled: all that is due for the lines within the limit is out.
pub record IsTooLong (c : Config) (limit count : ℕ) (calls : List Entry) : Type 0 where
  pub over : length (pulled calls) ≡ limit + 1
  pub all_lines : count ≡ length (lines (take limit (pulled calls)))
  pub due : IsDue c (lines (take limit (pulled calls))) calls

-- The last call is a failed pull, and all that is due for the lines pulled before it is out.
pub record IsCutOff (c : Config) (limit count : ℕ) (calls : List Entry) : Type 0 where
  pub last : EndsWith calls PullFailed
  pub fits : length (pulled calls) ≤ limit
  pub all_lines : count ≡ length (lines (pulled calls))
  pub due : IsDue c (lines (pulled calls)) calls

-- The last lines were not said whole: the last call is the say of them.
pub record IsLastUnsaid (c : Config) (count : ℕ) (broken : List ℕ) (calls : List Entry) : Type 0 where
  pub all_lines : count ≡ length (items (pulled calls))
  pub unspoken : IsUnspoken (numbers c (shut c (items (pulled calls)))) (text_of c (shut c (items (pulled calls)))) (answers_text c (items (pulled calls))) (last_text broken count) calls

-- A say failed: of the answer to a whole line within the limit, or, once the input has ended, of that to any line or of
-- the last lines.
abbrev pub FailsToSay : Config → ℕ → ℕ → List ℕ → List Entry → Type 0
FailsToSay c limit count broken calls =
    IsUnsaid c count (lines (take limit (pulled calls))) calls
    ⊎ (ReachesEnd calls × (IsUnsaid c count (items (pulled calls)) calls ⊎ IsLastUnsaid c count broken calls))

-- There was no memory: of the line in hand nothing was begun, put or said. Once all lines of the input were taken, the
-- outputs may have what some of the ends make due.
abbrev pub WantsMemory : Config → ℕ → ℕ → List Entry → Type 0
WantsMemory c limit count calls =
    IsDueTo c count (lines (take limit (pulled calls))) calls
    ⊎ (ReachesEnd calls × (IsDueTo c count (items (pulled calls)) calls ⊎ ((count ≡ length (items (pulled calls))) × IsHalted c (items (pulled calls)) calls)))

-- What stands at the end of a run that took so many lines, by its status.
abbrev pub StandsBy : Config → ℕ → Status → ℕ → List ℕ → List Entry → Type 0
StandsBy c limit status.Done count broken calls = (broken ≡ []) × IsWhole c limit count broken calls
StandsBy c limit status.OutputBroken count broken calls = (broken ≢ []) × IsWhole c limit count broken calls
StandsBy c limit status.TooLong count broken calls = IsTooLong c limit count calls
StandsBy c limit status.ReadFault count broken calls = IsCutOff c limit count calls
StandsBy c limit status.AnswerFault count broken calls = FailsToSay c limit count broken calls
StandsBy c limit status.NoMemory count broken calls = WantsMemory c limit count calls
StandsBy c limit _ count broken calls = ⊥

-- how often a pull failed, and a say, by the status
abbrev pub pulls_failed : Status → ℕ
pulls_failed status.ReadFault = 1
pulls_failed _ = 0

abbrev pub says_failed : Status → ℕ
says_failed status.AnswerFault = 1
says_failed _ = 0

-- A run ended so, under the limit on its bytes, after so many lines: all that was due was out before each pull, the broken
-- outputs are these, and the one pull or say that failed ended it.
pub record IsEnded (c : Config) (limit : ℕ) (s : Status) (count : ℕ) (broken : List ℕ) (calls : List Entry) : Type 0 where
  pub prompt : Prompt c calls
  pub outputs_broken : AreBroken broken calls
  pub says : say_failures calls ≡ says_failed s
  pub pulls : pull_failures calls ≡ pulls_failed s
  pub notes : note_failures calls ≡ 0
  pub stands : StandsBy c limit s count broken calls
