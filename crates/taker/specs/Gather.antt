-- Where a taker stands that has taken these parcels, and how it ends.
use Rattle.std.specs.Prelude.{ℕ, ◌≡◌, ◌⊎◌, ◌<◌, ◌≤◌, ◌-◌, ◌^◌, Bool, true, false, slice_index_or, Option, Some, None, Result, Ok, Err, List, ◌∷◌, ◌++◌, length}
use Rattle.std.specs.List.{AllByRecursion}
use Rattle.as_base.specs.declared.config.Config.{Config}
use Rattle.as_base.specs.declared.item.Item.{Item}
use Rattle.as_outside.specs.declared.entry.Entry.{Entry}
use Rattle.as_outside.specs.Failures.{note_failures, pull_failures}
use Rattle.inbox.specs.declared.load.Load.{Load}
use Rattle.inbox.specs.declared.load.Load.TheVariants.{Line, Last}
use Rattle.inbox.specs.declared.load.Ending.{Ending}
use Rattle.inbox.specs.declared.load.Ending.TheVariants as ending
use Rattle.feeder.specs.Loads.{lines_of, has_last}
use Rattle.service.specs.declared.engine.QueryEngine as engine
use Rattle.service.specs.declared.processor.Processor.{Processor}
use Rattle.service.specs.Processor.{broken_in, IsFinished}
use Rattle.service.specs.Stop.{IsStoppedAtEnd}
use Rattle.inbox.specs.Passes.{taken}
use Rattle.taker.specs.declared.gather.Gather.{Gather}
use Rattle.taker.specs.declared.halt.Halt.{Halt}
use Rattle.taker.specs.declared.halt.Halt.TheVariants as halt
use Rattle.taker.specs.Journal.{IsJournal}
use Rattle.taker.specs.Woven.{HasWoven, IsHaltedWith}

-- a last load says that its source was read to its end
abbrev pub IsWhole : Load → Type 0
IsWhole (Line item) = Unit {0}
IsWhole (Last e) = e ≡ ending.Whole

-- each last load among the parcels does
abbrev pub AllWhole : List (ℕ × Load) → Type 0
AllWhole parcels = AllByRecursion (λ (p : ℕ × Load). IsWhole p.1) parcels

-- each feeder that is marked as ended has a last load among the parcels
abbrev pub AreMarked : List Bool → List (ℕ × Load) → Type 0
AreMarked ended parcels =
    (length ended ≡ 5) × ((i : ℕ) → 0 < i → i < 6 → slice_index_or ended (i - 1) false ≡ true → has_last i parcels ≡ true)

-- the source did not end whole
abbrev pub IsFault : Ending → Type 0
IsFault ending.Whole = ⊥
IsFault _ = Unit {0}

-- The halt is by this feeder's last load: the journal is the lines taken before it.
pub record IsByFeed (n : ℕ) (e : Ending) (journal : List Item) (parcels : List (ℕ × Load)) : Type 0 where
  pub fault : IsFault e
  pub before : List (ℕ × Load)
  pub after : List (ℕ × Load)
  pub all : parcels ≡ before ++ (n, Last e) ∷ after
  pub lines : journal ≡ lines_of before

-- what a halt has to do with the parcels
abbrev pub IsCause : Halt → List Item → List (ℕ × Load) → Type 0
IsCause halt.Journal journal parcels = Unit {0}
IsCause (halt.Line s) journal parcels = Unit {0}
IsCause (halt.Feed n e) journal parcels = IsByFeed n e journal parcels

-- the halt by a feeder's last load, if it is one
abbrev pub halt_by : ℕ → Ending → Option Halt
halt_by n ending.Whole = None
halt_by n ending.ReadFault = Some (halt.Feed n ending.ReadFault)
halt_by n ending.TooLong = Some (halt.Feed n ending.TooLong)
halt_by n ending.NoMemory = Some (halt.Feed n ending.NoMemory)

-- Nothing has halted the taker: all lines among the parcels were noted and processed, and no source has ended otherwise
-- than whole.
pub record IsWeaving {E : Type 0} (e : engine.Ghosts E) (c : Config) (p : Processor E) (parcels : List (ℕ × Load)) (calls : List Entry) : Type 0 where
  pub woven : HasWoven e c p (lines_of parcels) calls
  pub whole : AllWhole parcels

-- It was halted among the parcels: its journal is the first of their lines.
pub record WasHalted (c : Config) (h : Halt) (lines : ℕ) (broken : List ℕ) (parcels : List (ℕ × Load)) (calls : List Entry) : Type 0 where
  pub journal : List Item
  pub rest : List Item
  pub all : lines_of parcels ≡ journal ++ rest
  pub halted : IsHaltedWith c h lines broken journal calls
  pub cause : IsCause h journal parcels

-- it goes on, or was halted
abbrev pub IsAt : {E : Type 0} → engine.Ghosts E → Config → Option Halt → Processor E → List (ℕ × Load) → List Entry → Type 0
IsAt e c None p parcels calls = IsWeaving e c p parcels calls
IsAt e c (Some h) p parcels calls = WasHalted c h p.lines (broken_in p) parcels calls

-- what a taker keeps true of what it has taken, and of how many lines it has processed
abbrev pub Keeps : {E : Type 0} → engine.Ghosts E → Gather E → Type 0
Keeps e g = AreMarked g.ended (taken g.pass) × (g.halt ≡ None → e.count g.taker.processor.engine ≤ 2 ^ 61)

-- where a taker stands by all that it has taken
abbrev pub StandsAfter : {E : Type 0} → engine.Ghosts E → Config → Gather E → List Entry → Type 0
StandsAfter e c g calls = IsAt e c g.halt g.taker.processor (taken g.pass) calls

-- The lines of all parcels were noted, and each source ended whole.
pub record HasAll (c : Config) (parcels : List (ℕ × Load)) (calls : List Entry) : Type 0 where
  pub journal : IsJournal c (lines_of parcels) calls
  pub whole : AllWhole parcels
  pub notes : note_failures calls ≡ 0
  pub pulls : pull_failures calls ≡ 0

-- It was halted by the ends of the streams or by the last lines.
abbrev pub IsHaltedAtEnd : Config → Halt → ℕ → List ℕ → List (ℕ × Load) → List Entry → Type 0
IsHaltedAtEnd c (halt.Line s) lines broken parcels calls = HasAll c parcels calls × IsStoppedAtEnd c s lines broken (lines_of parcels) calls
IsHaltedAtEnd c _ lines broken parcels calls = ⊥

-- how a taker ends: all is done that is due for the lines of the parcels and for the end, or it was halted
abbrev pub Ends : Config → Result (Unit {0}) Halt → ℕ → List ℕ → List (ℕ × Load) → List Entry → Type 0
Ends c (Ok x) lines broken parcels calls = HasAll c parcels calls × IsFinished c lines broken (lines_of parcels) calls
Ends c (Err h) lines broken parcels calls = WasHalted c h lines broken parcels calls ⊎ IsHaltedAtEnd c h lines broken parcels calls
