use Rattle.inbox.specs.Sound.{IsSound}
use Rattle.inbox.proofs.Moves.{pops, learns_taken}
use Rattle.inbox.proofs.seats.pop.Goals as goal

pub pop_as-requires-clause-rule : goal.pop_as-requires-clause-rule
pop_as-requires-clause-rule g c = (pops IsSound g.W.Watch.sees _ _ c.requires.taker.1 c.requires.watch, learns_taken IsSound g.W.Watch.sees _ _ c.requires.taker.1)
