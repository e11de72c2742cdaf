-- The windows that hold some of a query's records, one after the other, and the rows of these.
use Rattle.std.specs.Prelude.{ℕ, ℤ, pos, ◌≡◌, true, false, ◌&&◌, nat_lt, nat_le, if◌then◌else◌, Bool, Option, Some, None, List, [], ◌∷◌}
use Rattle.std.specs.List.{filter, flat_map, AllByRecursion}
use Rattle.std.specs.List.Sorted.{IsNonDecreasingBy, IsPartitionPoint}
use Rattle.as_base.specs.declared.fragment.Cell.{Cell}
use Rattle.as_base.specs.declared.item.Given.{Given}
use Rattle.as_base.specs.declared.query.Kind.{Kind}
use Rattle.as_base.specs.declared.query.Kind.TheVariants.{Select, Sum, Count, Join}
use Rattle.as_base.specs.declared.query.Plan.{Plan}
use Rattle.as_base.specs.declared.row.Row.{Row}
use Rattle.as_base.specs.declared.row.Row.TheVariants.{Agg}
use Rattle.as_base.specs.Range.{IsTime}
use Rattle.as_base.specs.Windows.{start_of, end_of}
use Rattle.views.specs.Groups.{group_told}
use Rattle.views.specs.Passed.{windows_with}
use Rattle.views.specs.Rows.{rows_with}
use Rattle.row_text.specs.RowText.{row_text}

-- the records stand by time
abbrev pub AreByTime : List Given → Type 0
AreByTime gs = IsNonDecreasingBy (λ (g : Given). g.time) gs

-- the records stand by time, and have times
pub record AreWaiting (gs : List Given) : Type 0 where
  pub order : AreByTime gs
  pub times : AllByRecursion (λ (g : Given). IsTime g.time) gs

-- the place of a time among the records: those before it are not after the time, the others are
abbrev pub IsPlaceAt : ℕ → List Given → ℕ → Type 0
IsPlaceAt time gs i = IsPartitionPoint (λ (g : Given). nat_le g.time time ≡ true) (λ (g : Given). nat_le g.time time ≡ false) gs i

-- the record at its place among records that stand by time, after all that are not later
abbrev pub put_by_time : Given → List Given → List Given
put_by_time g [] = g ∷ []
put_by_time g (x ∷ xs) = if nat_le x.time g.time then x ∷ put_by_time g xs else g ∷ x ∷ xs

-- the first of the rising numbers from k on
abbrev pub next_from : ℕ → List ℕ → Option ℕ
next_from k [] = None
next_from k (j ∷ js) = if nat_le k j then Some j else next_from k js

-- the number is one from the first on and before the last
abbrev pub is_between : ℕ → ℕ → ℕ → Bool
is_between first until k = nat_le first k && nat_lt k until

-- what a row has of a cell: the sum, or the count
abbrev pub value_told : Kind → Cell → ℤ
value_told (Sum c) cell = cell.sum
value_told Count cell = pos cell.count
value_told Select cell = pos 0
value_told Join cell = pos 0

-- the row of a cell in window k
abbrev pub row_of : Plan → ℕ → Cell → Row
row_of p k cell = Agg (start_of p.win k) (end_of p.win k) (group_told p.group cell.group) (value_told p.kind cell)

-- the rows of the windows from the first on and before the last that hold some of the left records
abbrev pub rows_between : Plan → ℕ → ℕ → List Given → List Given → List Row
rows_between p first until lefts rights = flat_map (rows_with p lefts rights) (filter (is_between first until) (windows_with p.win lefts))

-- the text of rows
abbrev pub text_of_rows : List Row → List ℕ
text_of_rows rows = flat_map row_text rows
