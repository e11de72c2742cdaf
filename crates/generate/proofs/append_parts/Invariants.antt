use Rattle.std.proofs.Common.{◌≡◌, ◌++◌, take}
use Rattle.generate.specs.Generated.{text_of_parts}
use Rattle.generate.specs.Parts.{parts_at}
use Rattle.generate.proofs.append_parts.Given as goal

abbrev pub invariant-loop-part : goal.invariant-loop-part
invariant-loop-part l = l.out.items ≡ l.fn.out.items ++ text_of_parts (parts_at (take l.part-index l.parts))
