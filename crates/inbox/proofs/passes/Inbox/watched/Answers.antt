use Rattle.inbox.specs.Sound.{IsSound}
use Rattle.inbox.proofs.Passing.{begins}
use Rattle.inbox.proofs.passes.Inbox.watched.Goals as goal

pub ruled-requires-clause-rule : goal.ruled-requires-clause-rule
ruled-requires-clause-rule g c = begins IsSound g.W.Watch.sees c.requires.watch
