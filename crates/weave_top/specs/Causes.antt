-- What the counts of a shelf's faults say of how a weave ended: each fault where its count rose, and no other.
use Rattle.std.specs.Prelude.{ℕ, ◌≡◌, ◌≢◌, List, []}
use Rattle.as_base.specs.Times.{times}
use Rattle.as_outside.specs.declared.report.Status.{Status}
use Rattle.as_outside.specs.declared.report.Status.TheVariants as status
use Rattle.as_outside.specs.Makes.{Faults, Counts, CountsOutputs}
use Rattle.weave_top.specs.Ends.{says_failed, notes_failed}

-- which broken outputs a status tells of
abbrev pub Tells : Status → List ℕ → Type 0
Tells status.Done broken = broken ≡ []
Tells status.Usage broken = broken ≡ []
Tells status.OutputBroken broken = broken ≢ []
Tells _ broken = Unit {0}

-- A weave ended so, with these broken outputs, only where the counts of faults tell it: that of says rose for `AnswerFault`
-- and for nothing else, that of notes for `JournalFault`, and those of the broken outputs, or, for want of memory to tell
-- outputs apart, of all.
pub record IsCaused (s : Status) (broken : List ℕ) (old new : Faults) : Type 0 where
  pub says : Counts (says_failed s) old.say new.say
  pub notes : Counts (notes_failed s) old.note new.note
  pub pulls : new.pull ≡ old.pull
  pub outputs : CountsOutputs (λ n. times n broken) old.output new.output
  pub told : Tells s broken
