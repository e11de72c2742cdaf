use Rattle.std.proofs.Common.{◌≡◌, take}
use Rattle.as_lineform.specs.Cutter.{keep_all}
use Rattle.as_lineform.proofs.lines.Lines.keep_all.Given as goal

abbrev pub invariant-loop-byte : goal.invariant-loop-byte
invariant-loop-byte l = l.self ≡ keep_all l.initial.self (take l.byte-index l.bytes)
