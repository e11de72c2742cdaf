use Rattle.std.proofs.Common.{◌≡◌, ◌++◌, map, take, drop}
use Rattle.plain_engine.specs.Held.{Held}
use Rattle.plain_engine.specs.Holding.{mark_by, forgotten}
use Rattle.plain_engine.proofs.store.forget_among.Given as goal

abbrev pub invariant-loop-holding : goal.invariant-loop-holding
invariant-loop-holding l =
    l.held ≡ map (λ (h : Held). forgotten (mark_by l.marks h.plan) h) (take l.holding-index l.initial.held) ++ drop l.holding-index l.initial.held
