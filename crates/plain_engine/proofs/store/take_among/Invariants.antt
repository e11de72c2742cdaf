use Rattle.std.proofs.Common.{◌≡◌, ◌++◌, map, take, drop}
use Rattle.plain_engine.specs.Holding.{with_given}
use Rattle.plain_engine.proofs.store.take_among.Given as goal

abbrev pub invariant-loop-holding : goal.invariant-loop-holding
invariant-loop-holding l = l.held ≡ map (with_given l.given) (take l.holding-index l.initial.held) ++ drop l.holding-index l.initial.held
