use Rattle.std.proofs.Common.{◌≡◌}
use Rattle.std.specs.List.{AllByRecursion}
use Rattle.group_table.specs.Cells.{sums, IsSound}
use Rattle.shared_agg.specs.Slices.{cells_within}
use Rattle.shared_agg.proofs.slices.gather.Given as goal

abbrev pub invariant-loop-place : goal.invariant-loop-place
invariant-loop-place l = record {
  so_far : sums l.cells.items ≡ sums (cells_within l.first l.place l.slot l.slices.items);
  sound : AllByRecursion IsSound l.cells.items;
}
