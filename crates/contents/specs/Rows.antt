-- The rows of cells.
use Rattle.std.specs.Prelude.{ℕ, ℤ, pos}
use Rattle.as_base.specs.declared.fragment.Cell.{Cell}
use Rattle.as_base.specs.declared.query.Kind.{Kind}
use Rattle.as_base.specs.declared.query.Kind.TheVariants.{Select, Sum, Count, Join}
use Rattle.as_base.specs.declared.query.Plan.{Plan}
use Rattle.as_base.specs.declared.row.Row.{Row}
use Rattle.as_base.specs.declared.row.Row.TheVariants.{Agg}
use Rattle.as_base.specs.Windows.{start_of, end_of}
use Rattle.views.specs.Groups.{group_told}

-- what a query of this kind tells of a cell: the sum, or how many records they are
abbrev pub told_of : Kind → Cell → ℤ
told_of (Sum c) cell = cell.sum
told_of Count cell = pos cell.count
told_of Select cell = pos 0
told_of Join cell = pos 0

-- the row of a cell in window k
abbrev pub cell_row : Plan → ℕ → Cell → Row
cell_row p k cell = Agg (start_of p.win k) (end_of p.win k) (group_told p.group cell.group) (told_of p.kind cell)
