use Rattle.std.proofs.Common.{◌-◌, ◌≤◌}
use Rattle.as_outside.specs.Makes.{Makes}
use Rattle.astream_top.specs.Generation.{says_of}
use Rattle.astream_top.proofs.generating.generate.Given as goal

abbrev pub invariant-loop-said : goal.invariant-loop-said
invariant-loop-said g l = record {
  most : l.said ≤ l.lines;
  makes : Makes (g.D.Shelf.seen l.initial.desk) (g.D.Shelf.seen l.desk) (says_of l.number l.streams l.said);
}

abbrev pub decreases-loop-said : goal.decreases-loop-said
decreases-loop-said g l = l.lines - l.said
