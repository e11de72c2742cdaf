-- What is seen of a desk or a shelf by its counts of faults.
use Rattle.std.specs.Prelude.{None}
use Rattle.as_outside.specs.Makes.{Seen}
use Rattle.as_real.specs.declared.outlets.Outlets.{Outlets}
use Rattle.as_real.specs.OutputFaults.{faults_of}

-- these counts, and no content
abbrev pub seen_of : Outlets → Seen
seen_of o = record {
  log = None;
  left = None;
  faults = record {
    say = o.says;
    note = o.notes;
    pull = o.pulls;
    output = faults_of o.outputs;
  };
}
