use Rattle.std.specs.Io.KnownBytes.{Keeps}
use Rattle.as_real.proofs.bytes.read_some.Given as goal

-- no byte was read
abbrev pub invariant-loop : goal.invariant-loop
invariant-loop g l = Keeps (g.S.Read.remaining l.initial.from) (g.S.Read.remaining l.from)
