use Rattle.std.proofs.Common.{◌≡◌, map, string_bytes, length}
use Rattle.options.specs.Options.{number, values_of}
use Rattle.options.proofs.NumberLaws.{number_after}
use Rattle.options.proofs.number.Given as goal

abbrev pub invariant-loop-rest : goal.invariant-loop-rest
invariant-loop-rest l = number l.fn.option (map string_bytes l.words)
    ≡ number_after l.span l.found (values_of l.wanted (map string_bytes l.rest))

abbrev pub decreases-loop-rest : goal.decreases-loop-rest
decreases-loop-rest l = length l.rest
