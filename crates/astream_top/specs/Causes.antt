-- What the counts of faults say of how a call ended: each fault where its count rose, and no other.
use Rattle.std.specs.Prelude.{ℕ, ◌≡◌, ◌≢◌, ◌≤◌, ◌<◌, Option, Some, List, [], length}
use Rattle.as_base.specs.Times.{times}
use Rattle.as_outside.specs.declared.report.Status.{Status}
use Rattle.as_outside.specs.declared.report.Status.TheVariants as status
use Rattle.as_outside.specs.Makes.{Faults, Counts, CountsOutputs}
use Rattle.astream_top.specs.Ends.{pulls_failed, says_failed}

-- which broken outputs a status tells of
abbrev pub Tells : Status → List ℕ → Type 0
Tells status.Done broken = broken ≡ []
Tells status.Usage broken = broken ≡ []
Tells status.OutputBroken broken = broken ≢ []
Tells status.JournalFault broken = ⊥
Tells _ broken = Unit {0}

-- A call ended so, with these broken outputs, only where the counts of faults tell it: that of pulls rose for `ReadFault`
-- and for nothing else, that of says for `AnswerFault`, and those of the broken outputs, or, for want of memory to tell
-- outputs apart, of all.
pub record IsCaused (s : Status) (broken : List ℕ) (old new : Faults) : Type 0 where
  pub pulls : Counts (pulls_failed s) old.pull new.pull
  pub says : Counts (says_failed s) old.say new.say
  pub notes : new.note ≡ old.note
  pub outputs : CountsOutputs (λ n. times n broken) old.output new.output
  pub told : Tells s broken

-- How a run ended by its input: within the limit, and read to the end, or longer than the limit.
abbrev pub IsRead : ℕ → List ℕ → Status → Option (List ℕ) → Type 0
IsRead limit input status.Done left = (length input ≤ limit) × (left ≡ Some [])
IsRead limit input status.OutputBroken left = (length input ≤ limit) × (left ≡ Some [])
IsRead limit input status.TooLong left = limit < length input
IsRead limit input _ left = Unit {0}

-- How a run ends over an outside that never fails: by the length of its input, or for want of memory.
abbrev pub EndsSurely : ℕ → List ℕ → Status → Type 0
EndsSurely limit input status.Done = length input ≤ limit
EndsSurely limit input status.TooLong = limit < length input
EndsSurely limit input status.NoMemory = Unit {0}
EndsSurely limit input _ = ⊥
