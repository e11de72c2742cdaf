use Rattle.std.proofs.Common.{◌≡◌, ◌++◌, List}
use Rattle.as_base.specs.declared.config.Config.{Config}
use Rattle.as_outside.specs.declared.entry.Entry.{Entry}
use Rattle.as_outside.specs.Makes.{Does}
use Rattle.inbox.specs.Passes.{taker_inbox}
use Rattle.team.proofs.team.take_all.Given as goal

abbrev pub invariant-loop : goal.invariant-loop
invariant-loop g l = record {
  next : (goal.iterator-loop g).can_next l.iterator' × (goal.iterator-loop g).is_finite l.iterator';
  same : l.team ≡ l.initial.team;
  inbox : taker_inbox (g.H.Hall.pass l.hall) ≡ taker_inbox (g.H.Hall.pass l.initial.hall);
  name : g.H.Hall.name l.hall ≡ g.H.Hall.name l.initial.hall;
  keeps : g.H.Hall.keeps l.hall;
  stands : (c : Config) (calls : List Entry) → g.H.Hall.stands l.initial.hall c calls
      → Does (g.H.Hall.seen l.initial.hall) (g.H.Hall.seen l.hall) (λ more. g.H.Hall.stands l.hall c (calls ++ more));
}
