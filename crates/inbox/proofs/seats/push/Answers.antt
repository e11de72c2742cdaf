use Rattle.inbox.specs.Sound.{IsSound}
use Rattle.inbox.proofs.Moves.{pushes, learns_beside}
use Rattle.inbox.proofs.seats.push.Goals as goal

pub push_as-requires-clause-rule : goal.push_as-requires-clause-rule
push_as-requires-clause-rule g c = (pushes IsSound g.W.Watch.sees _ _ _ _ c.requires.feeder.0 c.requires.feeder.1 c.requires.sound c.requires.feeder.2.1 c.requires.watch, learns_beside IsSound g.W.Watch.sees _ _)
