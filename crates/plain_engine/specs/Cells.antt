-- Cells of groups: what the records of a window add up to, and how a record goes into them.
use Rattle.std.specs.Prelude.{ℕ, ℤ, pos, ◌+ℤ◌, neg_ℤ, ◌≤ℤ◌, ◌<ℤ◌, int_lt, int_le}
use Rattle.std.specs.Prelude.{◌≡◌, true, false, ◌+◌, ◌*◌, ◌^◌, ◌≤◌, if◌then◌else◌, List, [], ◌∷◌, map, length}
use Rattle.std.specs.List.{AllByRecursion}
use Rattle.std.specs.List.Sorted.{IsPartitionPoint}
use Rattle.std.specs.Ordering.{int_eq}
use Rattle.as_base.specs.declared.fragment.Cell.{Cell}
use Rattle.as_base.specs.declared.item.Given.{Given}
use Rattle.as_base.specs.declared.query.Group.{Group}
use Rattle.as_base.specs.declared.query.Kind.{Kind}
use Rattle.as_base.specs.declared.query.Kind.TheVariants.{Select, Sum, Count, Join}
use Rattle.views.specs.Groups.{value_at, groups, of_group}

-- what a record adds to the sum of its group: its value for a sum, and nothing otherwise
abbrev pub summand : Kind → Given → ℤ
summand (Sum c) g = value_at c g
summand Count g = pos 0
summand Select g = pos 0
summand Join g = pos 0

-- what the records add to a sum
abbrev pub total : Kind → List Given → ℤ
total kind [] = pos 0
total kind (g ∷ gs) = summand kind g +ℤ total kind gs

-- what the records of group z add up to
abbrev pub cell_of : Kind → Group → List Given → ℤ → Cell
cell_of kind by gs z = record { group = z; sum = total kind (of_group by z gs); count = length (of_group by z gs) }

-- what the records add up to, group by group, by rising group
abbrev pub cells_of : Kind → Group → List Given → List Cell
cells_of kind by gs = map (cell_of kind by gs) (groups by gs)

-- a cell with one record more, which adds the value
abbrev pub with_one : ℤ → Cell → Cell
with_one value c = record { group = c.group; sum = value +ℤ c.sum; count = c.count + 1 }

-- the cell of one record
abbrev pub cell_of_one : ℤ → ℤ → Cell
cell_of_one z value = record { group = z; sum = value; count = 1 }

-- the cells, which stand by rising group, with one record more, of group z
abbrev pub put_cell : ℤ → ℤ → List Cell → List Cell
put_cell z value [] = cell_of_one z value ∷ []
put_cell z value (c ∷ cs) =
    if int_eq z c.group then with_one value c ∷ cs else (if int_le z c.group then cell_of_one z value ∷ c ∷ cs else c ∷ put_cell z value cs)

-- each group is below all later ones
abbrev pub AreRising : List Cell → Type 0
AreRising [] = Unit {0}
AreRising (c ∷ cs) = AllByRecursion (λ (later : Cell). c.group <ℤ later.group) cs × AreRising cs

-- the cell is of at most n records, each of which adds a signed 64-bit number
pub record IsWithin (n : ℕ) (c : Cell) : Type 0 where
  pub count : c.count ≤ n
  pub above : neg_ℤ (pos (n * 2 ^ 63)) ≤ℤ c.sum
  pub below : c.sum ≤ℤ pos (n * 2 ^ 63)

abbrev pub AreWithin : ℕ → List Cell → Type 0
AreWithin n cs = AllByRecursion (IsWithin n) cs

-- the place of the group among the cells: the cells before it have lower groups, the others have not
abbrev pub IsPlace : ℤ → List Cell → ℕ → Type 0
IsPlace z cs i = IsPartitionPoint (λ (c : Cell). int_lt c.group z ≡ true) (λ (c : Cell). int_lt c.group z ≡ false) cs i
