use Rattle.std.proofs.Common.{◌≡◌, ◌++◌, map, take, drop}
use Rattle.plain_engine.specs.Holding.{ended}
use Rattle.plain_engine.proofs.store.end_among.Given as goal

abbrev pub invariant-loop-holding : goal.invariant-loop-holding
invariant-loop-holding l = l.held ≡ map (ended l.n l.at) (take l.holding-index l.initial.held) ++ drop l.holding-index l.initial.held
