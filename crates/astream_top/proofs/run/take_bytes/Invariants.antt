use Rattle.std.proofs.Common.{◌≤◌, ◌+◌, ◌-◌, ◌++◌, ℕ, List, take, length}
use Rattle.as_outside.specs.declared.entry.Entry.{Entry}
use Rattle.as_base.specs.declared.config.Config.{Config}
use Rattle.service.specs.Stop.{Continues}
use Rattle.astream_top.specs.Run.{HasTaken}
use Rattle.astream_top.proofs.run.take_bytes.Given as goal

abbrev pub invariant-lines : goal.invariant-lines
invariant-lines g l = record {
  calls : (c : Config) (before : List ℕ) (calls : List Entry) → HasTaken g.E.QueryEngine c l.initial.run before calls →
      Continues (g.D.Shelf.seen l.initial.desk) (g.D.Shelf.seen l.desk) calls (HasTaken g.E.QueryEngine c l.run (before ++ take l.start l.bytes));
  within : l.start ≤ length l.bytes;
  count : g.E.QueryEngine.count l.run.processor.engine ≤ g.E.QueryEngine.count l.initial.run.processor.engine + l.start;
}

abbrev pub decreases-lines : goal.decreases-lines
decreases-lines g l = length l.bytes - l.start
