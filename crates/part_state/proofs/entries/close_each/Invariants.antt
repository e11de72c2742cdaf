use Rattle.std.proofs.Common.{◌≡◌, ◌++◌, map, take, drop}
use Rattle.part_state.specs.Entries.{closed_entry}
use Rattle.part_state.proofs.entries.close_each.Given as goal

abbrev pub invariant-loop-entry : goal.invariant-loop-entry
invariant-loop-entry l = l.entries ≡ map (closed_entry l.n l.at) (take l.entry-index l.initial.entries) ++ drop l.entry-index l.initial.entries
