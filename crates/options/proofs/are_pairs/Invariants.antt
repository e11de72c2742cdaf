use Rattle.std.proofs.Common.{◌≡◌, map, string_bytes, length}
use Rattle.options.specs.Options.{are_pairs}
use Rattle.options.proofs.are_pairs.Given as goal

abbrev pub invariant-loop-rest : goal.invariant-loop-rest
invariant-loop-rest l = are_pairs l.known (map string_bytes l.words) ≡ are_pairs l.known (map string_bytes l.rest)

abbrev pub decreases-loop-rest : goal.decreases-loop-rest
decreases-loop-rest l = length l.rest
