use Rattle.std.proofs.Common.{◌≡◌, ◌≤◌, ◌-◌, []}
use Rattle.as_base.specs.declared.config.Config.{Config}
use Rattle.soak.specs.Soaked.{items_of, HasSoaked}
use Rattle.soak.proofs.soak.Soak.take_lines.Given as goal

abbrev pub invariant-loop-self : goal.invariant-loop-self
invariant-loop-self g l = record {
  soaked : (c : Config) → HasSoaked g.E.QueryEngine c l.fn.self [] → HasSoaked g.E.QueryEngine c l.self (items_of l.number l.self.lines l.streams);
  count : g.E.QueryEngine.count l.self.engine ≡ l.self.lines;
  most : l.self.lines ≤ l.lines;
}

abbrev pub decreases-loop-self : goal.decreases-loop-self
decreases-loop-self g l = l.lines - l.self.lines
