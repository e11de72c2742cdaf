use Rattle.std.proofs.Common.{◌≡◌, drop}
use Rattle.as_outside.specs.Script.{fault_at}
use Rattle.as_outside.proofs.mem_desk.script.fault_at.Given as goal

-- no entry so far is one for the call
abbrev pub invariant-loop-number : goal.invariant-loop-number
invariant-loop-number l = fault_at (drop l.number-index l.fails) l.call ≡ fault_at l.fails l.call
