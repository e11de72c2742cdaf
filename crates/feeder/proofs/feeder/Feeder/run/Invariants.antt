use Rattle.std.proofs.Common.{◌≡◌}
use Rattle.inbox.specs.Passes.{id_of, inbox_of, offered}
use Rattle.feeder.specs.Going.{GoesOn, IsSame}
use Rattle.feeder.proofs.feeder.Feeder.run.Given as goal

abbrev pub invariant-loop : goal.invariant-loop
invariant-loop g l = record {
  next : (goal.iterator-loop g).can_next l.iterator' × (goal.iterator-loop g).is_finite l.iterator';
  inbox : inbox_of l.self.pass ≡ id_of l.inbox;
  same : IsSame l.initial.self.pass l.self.pass;
  goes : GoesOn (g.F.Source.seen l.initial.self.source) (g.F.Source.seen l.self.source) l.initial.self.maker l.self.maker (offered l.initial.self.pass) (offered l.self.pass);
}
