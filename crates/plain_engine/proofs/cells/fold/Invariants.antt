use Rattle.std.proofs.Common.{◌≡◌, ◌-◌, ◌≤◌, length, drop}
use Rattle.plain_engine.specs.Cells.{AreWithin, cells_of}
use Rattle.plain_engine.proofs.cells.fold.Given as goal

abbrev pub invariant-loop-left : goal.invariant-loop-left
invariant-loop-left l =
    (l.left ≤ length l.records) × (l.cells.items ≡ cells_of l.plan.kind l.plan.group (drop l.left l.records)) × AreWithin (length l.records - l.left) l.cells.items

abbrev pub decreases-loop-left : goal.decreases-loop-left
decreases-loop-left l = l.left
