-- What the calls of a weave say of the counts of faults.
use Rattle.std.proofs.Common.{ℕ, Option, List, subst}
use Rattle.as_base.specs.declared.config.Config.{Config}
use Rattle.as_base.specs.declared.item.Item.{Item}
use Rattle.as_base.specs.Times.{times}
use Rattle.as_outside.specs.declared.entry.Entry.{Entry}
use Rattle.as_outside.specs.declared.report.Status.{Status}
use Rattle.as_outside.specs.declared.report.Status.TheVariants as status
use Rattle.as_outside.specs.Failures.{failures}
use Rattle.as_outside.specs.Makes.{Seen, Counts, Does}
use Rattle.as_outside.proofs.MakesLaws.{CountsOutputs-same}
use Rattle.inbox.specs.declared.passes.Closed.{Closed}
use Rattle.weave_top.specs.Causes.{Tells, IsCaused}
use Rattle.weave_top.specs.Ends.{StandsBy, IsWoven}

-- what a status tells of the broken outputs
tells : (c : Config) (s : Status) (count : ℕ) (broken : List ℕ) (journal : List Item) (closed : Closed) (calls : List Entry)
    → StandsBy c s count broken journal closed calls
    → Tells s broken
tells c status.Done count broken journal closed calls h = h.0
tells c status.OutputBroken count broken journal closed calls h = h.0
tells c status.NoMemory count broken journal closed calls h = tt
tells c status.ReadFault count broken journal closed calls h = tt
tells c status.AnswerFault count broken journal closed calls h = tt
tells c status.TooLong count broken journal closed calls h = tt
tells c status.JournalFault count broken journal closed calls h = tt
tells c status.Usage count broken journal closed calls h = absurd h

-- A weave ended so only where the counts of faults tell it.
pub caused : (c : Config) (s : Status) (count : ℕ) (broken : List ℕ) (named : Option ℕ) (closed : Closed) (a b : Seen)
    → Does a b (IsWoven c s count broken named closed)
    → IsCaused s broken a.faults b.faults
caused c s count broken named closed a b h = record {
  says = subst (λ n. Counts n a.faults.say b.faults.say) h.holds.says h.makes.says;
  notes = subst (λ n. Counts n a.faults.note b.faults.note) h.holds.notes h.makes.notes;
  pulls = h.makes.pulls.stays h.holds.pulls;
  outputs = CountsOutputs-same (λ n. failures n h.calls) (λ n. times n broken) a.faults.output b.faults.output
      h.holds.outputs_broken.listed h.makes.outputs;
  told = tells c s count broken h.holds.journal closed h.calls h.holds.stands;
}
