-- What a run and the calls so far stand for, and what the calls of a pull are.
use Rattle.std.specs.Prelude.{ℕ, ◌≡◌, ◌+◌, ◌⊎◌, Result, Ok, Err, Some, List, [], ◌∷◌, ◌++◌, length, take}
use Rattle.as_base.specs.declared.config.Config.{Config}
use Rattle.as_base.specs.declared.item.Item.{Item}
use Rattle.as_outside.specs.declared.entry.Entry.{Entry}
use Rattle.as_outside.specs.declared.report.Status.{Status}
use Rattle.as_outside.specs.declared.report.Status.TheVariants as status
use Rattle.as_outside.specs.Log.{pulled}
use Rattle.as_outside.specs.Failures.{pull_failures, note_failures}
use Rattle.as_outside.specs.Makes.{Seen}
use Rattle.as_lineform.specs.Lines.{lines}
use Rattle.as_lineform.specs.Cutter.{HasRead}
use Rattle.service.specs.declared.engine.QueryEngine as engine
use Rattle.service.specs.declared.processor.Processor.{Processor}
use Rattle.service.specs.declared.stop.Stop.{Stop}
use Rattle.service.specs.declared.stop.Stop.TheVariants as stop
use Rattle.service.specs.Processor.{broken_in, HasProcessed}
use Rattle.service.specs.Stop.{Continues, Goes, IsStopped, IsStoppedAtEnd}
use Rattle.astream_top.specs.declared.run.Run.{Run}
use Rattle.astream_top.specs.Prompt.{Prompt}
use Rattle.astream_top.specs.Ends.{ReachesEnd, IsEnded}

-- The bytes were taken: the cutter has read them, and their whole lines were processed.
pub record HasTaken {E : Type 0} (e : engine.Ghosts E) (c : Config) (r : Run E) (bytes : List ℕ) (calls : List Entry) : Type 0 where
  pub reads : HasRead r.cutter bytes
  pub processed : HasProcessed e c r.processor (lines bytes) calls

-- how many bytes a call took
abbrev pub used_by : Result ℕ Stop → ℕ
used_by (Ok used) = used
used_by (Err s) = 0

-- the run was stopped among the lines of these items
abbrev pub StopsIn : {E : Type 0} → Config → Processor E → List Item → Stop → List Entry → Type 0
StopsIn c p h s calls = IsStopped c s p.lines (broken_in p) h calls

-- So many bytes were taken from the front of these, and what is due for the line that they ended, if they ended one, was
-- done; or the run was stopped there.
abbrev pub TakesFront : {E : Type 0} → engine.Ghosts E → Run E → Run E → Seen → Seen → List ℕ → Result ℕ Stop → Type 0
TakesFront e old new seen seen' bytes result =
    (c : Config) (before : List ℕ) (calls : List Entry) → HasTaken e c old before calls
    → Continues seen seen' calls (Goes result (HasTaken e c new (before ++ take (used_by result) bytes)) (StopsIn c new.processor (lines (before ++ bytes))))

-- the run was stopped among the lines of these items, or at the ends that follow them
abbrev pub StopsByEnd : {E : Type 0} → Config → Processor E → List Item → Stop → List Entry → Type 0
StopsByEnd c p h s calls = StopsIn c p h s calls ⊎ IsStoppedAtEnd c s p.lines (broken_in p) h calls

-- All bytes pulled were taken, what is due was always out in time, and no pull failed.
pub record IsAt {E : Type 0} (e : engine.Ghosts E) (c : Config) (r : Run E) (calls : List Entry) : Type 0 where
  pub prompt : Prompt c calls
  pub no_pull_failed : pull_failures calls ≡ 0
  pub no_note_failed : note_failures calls ≡ 0
  pub taken : HasTaken e c r (pulled calls) calls

-- how a run ends that is stopped
abbrev pub status_of : Stop → Status
status_of stop.NoMemory = status.NoMemory
status_of stop.TooLong = status.TooLong
status_of stop.ReadFault = status.ReadFault
status_of stop.AnswerFault = status.AnswerFault

-- how a run ends by its result and its broken outputs
abbrev pub ended_by : Result (Unit {0}) Stop → List ℕ → Status
ended_by (Ok x) [] = status.Done
ended_by (Ok x) (n ∷ broken) = status.OutputBroken
ended_by (Err s) broken = status_of s

-- the run ended with this status, under the limit on its bytes
abbrev pub RunEnds : {E : Type 0} → Config → ℕ → Processor E → Status → List Entry → Type 0
RunEnds c limit p s calls = IsEnded c limit s p.lines (broken_in p) calls

-- One pull more than the calls `before`: at Ok it moved k bytes and the run goes on, else it ended the whole run.
abbrev pub PullsOnce : {E : Type 0} → engine.Ghosts E → Config → ℕ → Run E → Result ℕ Stop → List Entry → List Entry → Type 0
PullsOnce e c most run (Ok k) before calls =
    IsAt e c run calls × (length (pulled calls) ≡ length (pulled before) + k) × (k ≡ 0 → ReachesEnd calls)
PullsOnce e c most run (Err s) before calls = RunEnds c (length (pulled before) + most) run.processor (status_of s) calls

-- nothing is left to be pulled, if what is left is told
abbrev pub IsEmptied : Seen → Type 0
IsEmptied seen = (rest : List ℕ) → seen.left ≡ Some rest → rest ≡ []
