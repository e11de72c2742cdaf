-- How a weave ends by what it came to.
use Rattle.std.specs.Prelude.{ℕ, Option, Some, None, Result, Ok, Err, List, [], ◌∷◌}
use Rattle.as_outside.specs.declared.report.Status.{Status}
use Rattle.as_outside.specs.declared.report.Status.TheVariants as status
use Rattle.inbox.specs.declared.load.Ending.TheVariants as ending
use Rattle.service.specs.declared.stop.Stop.TheVariants as stop
use Rattle.taker.specs.declared.halt.Halt.{Halt}
use Rattle.taker.specs.declared.halt.Halt.TheVariants as halt

-- the status of a halt; of a source that ended whole there is none
abbrev pub status_of : Halt → Status
status_of halt.Journal = status.JournalFault
status_of (halt.Line stop.NoMemory) = status.NoMemory
status_of (halt.Line stop.ReadFault) = status.ReadFault
status_of (halt.Line stop.AnswerFault) = status.AnswerFault
status_of (halt.Line stop.TooLong) = status.TooLong
status_of (halt.Feed n ending.ReadFault) = status.ReadFault
status_of (halt.Feed n ending.TooLong) = status.TooLong
status_of (halt.Feed n ending.NoMemory) = status.NoMemory
status_of (halt.Feed n ending.Whole) = status.NoMemory

-- the feeder that a halt names
abbrev pub named_in : Halt → Option ℕ
named_in halt.Journal = None
named_in (halt.Line s) = None
named_in (halt.Feed n ending.ReadFault) = Some n
named_in (halt.Feed n ending.TooLong) = Some n
named_in (halt.Feed n ending.NoMemory) = None
named_in (halt.Feed n ending.Whole) = None

-- how a weave ends by its outcome and its broken outputs
abbrev pub ended_by : Result (Unit {0}) Halt → List ℕ → Status
ended_by (Ok x) [] = status.Done
ended_by (Ok x) (n ∷ broken) = status.OutputBroken
ended_by (Err h) broken = status_of h

-- the feeder that is named
abbrev pub named_by : Result (Unit {0}) Halt → Option ℕ
named_by (Ok x) = None
named_by (Err h) = named_in h
