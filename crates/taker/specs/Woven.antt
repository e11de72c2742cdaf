-- What a taker and the calls so far stand for, and what stands where it was stopped.
use Rattle.std.specs.Prelude.{ℕ, ◌≡◌, ◌⊎◌, Result, Ok, Err, List, [], ◌∷◌, ◌++◌, length}
use Rattle.as_base.specs.declared.config.Config.{Config}
use Rattle.as_base.specs.declared.item.Item.{Item}
use Rattle.as_outside.specs.declared.entry.Entry.{Entry}
use Rattle.as_outside.specs.Failures.{say_failures, note_failures, pull_failures}
use Rattle.as_outside.specs.Outputs.{AreListed}
use Rattle.as_lineform.specs.Lines.{rest}
use Rattle.service.specs.declared.engine.QueryEngine as engine
use Rattle.service.specs.declared.processor.Processor.{Processor}
use Rattle.service.specs.Due.{IsDue}
use Rattle.service.specs.Processor.{broken_in, HasProcessed}
use Rattle.service.specs.Stop.{StandsAt, unsaid_at}
use Rattle.taker.specs.declared.halt.Halt.{Halt}
use Rattle.taker.specs.declared.halt.Halt.TheVariants as halt
use Rattle.taker.specs.Journal.{noted, IsJournal}

-- The items were noted and processed, one after another, and no note and no say failed.
pub record HasWoven {E : Type 0} (e : engine.Ghosts E) (c : Config) (p : Processor E) (h : List Item) (calls : List Entry) : Type 0 where
  pub processed : HasProcessed e c p h calls
  pub journal : IsJournal c h calls
  pub whole : rest (noted calls) ≡ []
  pub notes : note_failures calls ≡ 0
  pub pulls : pull_failures calls ≡ 0

-- how many says failed at a halt, and how many notes
abbrev pub says_at : Halt → ℕ
says_at halt.Journal = 0
says_at (halt.Line s) = unsaid_at s
says_at (halt.Feed n e) = 0

abbrev pub notes_at : Halt → ℕ
notes_at halt.Journal = 1
notes_at (halt.Line s) = 0
notes_at (halt.Feed n e) = 0

-- all that is due for the items is out, and so many lines were counted
abbrev pub IsLeftDue : Config → ℕ → List Item → List Entry → Type 0
IsLeftDue c lines journal calls = (lines ≡ length journal) × IsDue c journal calls

-- What is out where a taker was halted with this journal, by the reason.
abbrev pub StandsHalted : Config → Halt → ℕ → List Item → List Entry → Type 0
StandsHalted c halt.Journal lines journal calls = IsLeftDue c lines journal calls
StandsHalted c (halt.Line s) lines journal calls = StandsAt c s lines journal calls
StandsHalted c (halt.Feed n e) lines journal calls = IsLeftDue c lines journal calls

-- A taker was halted with this journal, after so many lines and with these broken outputs.
pub record IsHaltedWith (c : Config) (h : Halt) (lines : ℕ) (broken : List ℕ) (journal : List Item) (calls : List Entry) : Type 0 where
  pub noted : IsJournal c journal calls
  pub listed : AreListed broken calls
  pub says : say_failures calls ≡ says_at h
  pub notes : note_failures calls ≡ notes_at h
  pub pulls : pull_failures calls ≡ 0
  pub stands : StandsHalted c h lines journal calls

-- A line was halted: at its note, which leaves the journal as it was, or after it. No feeder's last load halts a line.
abbrev pub HaltsAt : {E : Type 0} → Config → Halt → Processor E → List Item → Item → List Entry → Type 0
HaltsAt c (halt.Feed n e) p before item calls = ⊥
HaltsAt c h p before item calls =
    IsHaltedWith c h p.lines (broken_in p) before calls ⊎ IsHaltedWith c h p.lines (broken_in p) (before ++ item ∷ []) calls

-- One more item: it was noted and processed, or the taker was halted there.
abbrev pub Weaves : {E : Type 0} → engine.Ghosts E → Config → Result (Unit {0}) Halt → Processor E → List Item → Item → List Entry → Type 0
Weaves e c (Ok x) p before item calls = HasWoven e c p (before ++ item ∷ []) calls
Weaves e c (Err h) p before item calls = HaltsAt c h p before item calls
