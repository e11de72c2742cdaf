use Rattle.std.proofs.Common.{◌≡◌, take}
use Rattle.part_state.specs.Entries.{holders_in}
use Rattle.part_state.specs.Waiting.{waits, slots_of}
use Rattle.part_state.proofs.waiting.slots_in.Given as goal

abbrev pub invariant-loop-e : goal.invariant-loop-e
invariant-loop-e l = l.set ≡ slots_of (waits l.wait l.marks l.start) (holders_in (take l.e-index l.entries))
