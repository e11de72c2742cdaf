use Rattle.std.proofs.Common.{◌≡◌, ◌≤◌, ◌+◌, length}
use Rattle.as_outside.specs.Log.{pulled}
use Rattle.as_outside.specs.Makes.{Does}
use Rattle.astream_top.specs.Run.{IsAt}
use Rattle.astream_top.proofs.run.run_all.Given as goal

abbrev pub invariant-pulls : goal.invariant-pulls
invariant-pulls g l = record {
  calls : Does (g.D.Shelf.seen l.initial.desk) (g.D.Shelf.seen l.desk) (λ calls. IsAt g.E.QueryEngine (g.E.QueryEngine.config l.initial.run.processor.engine) l.run calls × (length (pulled calls) + l.most ≡ l.limit));
  count : g.E.QueryEngine.count l.run.processor.engine + l.most ≤ l.limit;
}

abbrev pub decreases-pulls : goal.decreases-pulls
decreases-pulls g l = l.most
