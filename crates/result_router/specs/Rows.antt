-- What the parts have of a window of a query, and the rows that this makes.
use Rattle.std.specs.Prelude.{ℕ, ℤ, pos, ◌+◌, if◌then◌else◌, List, [], ◌∷◌, map}
use Rattle.std.specs.List.{flat_map}
use Rattle.as_base.specs.declared.fragment.Body.{Body}
use Rattle.as_base.specs.declared.fragment.Body.TheVariants.{Recs, Cells, Couples}
use Rattle.as_base.specs.declared.fragment.Cell.{Cell}
use Rattle.as_base.specs.declared.fragment.Couple.{Couple}
use Rattle.as_base.specs.declared.fragment.Fragment.{Fragment}
use Rattle.as_base.specs.declared.item.Record.{Record}
use Rattle.as_base.specs.declared.query.Kind.{Kind}
use Rattle.as_base.specs.declared.query.Kind.TheVariants.{Select, Sum, Count, Join}
use Rattle.as_base.specs.declared.query.Plan.{Plan}
use Rattle.as_base.specs.declared.row.Row.{Row}
use Rattle.as_base.specs.declared.row.Row.TheVariants.{Sel, Agg, Pair}
use Rattle.group_table.specs.Cells.{sums}
use Rattle.views.specs.Groups.{group_told}
use Rattle.views.specs.Order.{comes_before}
use Rattle.views.specs.Pairs.{by_numbers}

-- the records of a body; a body of cells or couples has none
abbrev pub records_in : Body → List Record
records_in (Recs records) = records
records_in (Cells cells) = []
records_in (Couples couples) = []

-- the cells of a body
abbrev pub cells_in : Body → List Cell
cells_in (Recs records) = []
cells_in (Cells cells) = cells
cells_in (Couples couples) = []

-- the couples of a body
abbrev pub couples_in : Body → List Couple
couples_in (Recs records) = []
couples_in (Cells cells) = []
couples_in (Couples couples) = couples

-- those of the fragments, part after part
abbrev pub records_of : List Fragment → List Record
records_of fs = flat_map (λ (f : Fragment). records_in f.body) fs

abbrev pub cells_of : List Fragment → List Cell
cells_of fs = flat_map (λ (f : Fragment). cells_in f.body) fs

abbrev pub couples_of : List Fragment → List Couple
couples_of fs = flat_map (λ (f : Fragment). couples_in f.body) fs

-- the record, put before the first that does not come before it
abbrev pub put_record : Record → List Record → List Record
put_record r [] = r ∷ []
put_record r (s ∷ ss) = if comes_before s r then s ∷ put_record r ss else r ∷ s ∷ ss

-- the records by time, then by line
abbrev pub in_order : List Record → List Record
in_order [] = []
in_order (r ∷ rs) = put_record r (in_order rs)

-- what a row has of a cell: of a count how many records they are, and else their sum
abbrev pub told : Kind → Cell → ℤ
told Select cell = cell.sum
told (Sum c) cell = cell.sum
told Count cell = pos cell.count
told Join cell = cell.sum

-- the row of a cell, and that of a couple, in the window that begins at start
abbrev pub cell_row : Plan → ℕ → Cell → Row
cell_row p start cell = Agg start (start + p.win.size) (group_told p.group cell.group) (told p.kind cell)

abbrev pub couple_row : Plan → ℕ → Couple → Row
couple_row p start couple = Pair start (start + p.win.size) couple.left couple.right

-- the row of a record that is selected
abbrev pub record_row : Record → Row
record_row r = Sel r.given

-- The rows that a query of this kind makes of what the parts have of the window: of records in their order, of cells
-- added up by rising group, of couples by the numbers of their rows. Bodies of another kind count for nothing.
abbrev pub rows_as : Kind → Plan → ℕ → List Fragment → List Row
rows_as Select p start fs = map record_row (in_order (records_of fs))
rows_as (Sum c) p start fs = map (cell_row p start) (sums (cells_of fs))
rows_as Count p start fs = map (cell_row p start) (sums (cells_of fs))
rows_as Join p start fs = map (couple_row p start) (by_numbers (couples_of fs))

-- The rows of a window, whose plan and start are those of its first fragment.
abbrev pub rows_for : List Fragment → List Row
rows_for [] = []
rows_for (f ∷ fs) = rows_as f.plan.kind f.plan f.start (f ∷ fs)
