-- Worked rows, evaluated on the definitions alone: two records of one stream, in two slices.
use Rattle.std.specs.Prelude.{◌≡◌, ℕ, ℤ, pos, neg_ℤ, refl, true, false, Option, Some, None, List, [], ◌∷◌, ◌++◌}
use Rattle.as_base.specs.declared.fragment.Cell.{Cell}
use Rattle.as_base.specs.declared.item.Given.{Given}
use Rattle.as_base.specs.declared.query.Col.TheVariants.{V1}
use Rattle.as_base.specs.declared.query.Group.{Group}
use Rattle.as_base.specs.declared.query.Group.TheVariants as group
use Rattle.as_base.specs.declared.query.Kind.{Kind}
use Rattle.as_base.specs.declared.query.Kind.TheVariants.{Select, Sum, Count, Join}
use Rattle.as_base.specs.declared.query.Plan.{Plan}
use Rattle.as_base.specs.declared.stream.StreamId.TheVariants.{A}
use Rattle.as_base.specs.Query.{unlimited}
use Rattle.group_table.specs.Cells.{sums}
use Rattle.shared_agg.specs.declared.duties.Class.{Class}
use Rattle.shared_agg.specs.Duties.{duty_of, class_at}
use Rattle.shared_agg.specs.Shares.{shares}

-- a query of windows of 100 ticks on a, with its number
abbrev query : ℕ → Kind → Group → Option (ℕ × Plan)
query n kind by = Some (
  n,
  record {
    kind = kind;
    group = by;
    left = A;
    right = A;
    left_bounds = unlimited;
    right_bounds = unlimited;
    win = record { size = 100; slide = 100 };
  },
)

-- a record with this time, key and first value
abbrev at : ℕ → ℤ → ℤ → Given
at time key v1 = record { stream = A; time = time; key = key; v = v1 ∷ pos 0 ∷ pos 0 ∷ pos 0 ∷ [] }

abbrev cell : ℤ → ℤ → ℕ → Cell
cell group sum count = record { group = group; sum = sum; count = count }

-- what both records add up to for the owner of a slot
abbrev both : Option (ℕ × Plan) → List Cell
both owner = sums (shares (at 3 (pos 5) (pos 7)) owner ++ shares (at 15 (pos 9) (neg_ℤ (pos 2))) owner)

-- a count by all has one group
pub counted : both (query 1 Count group.All) ≡ cell (pos 0) (pos 0) 2 ∷ []
counted = refl

-- and counts the second record alone where the first slice was dropped
pub counted_after : sums (shares (at 15 (pos 9) (neg_ℤ (pos 2))) (query 1 Count group.All)) ≡ cell (pos 0) (pos 0) 1 ∷ []
counted_after = refl

-- a sum of v1 by key
pub summed : both (query 2 (Sum V1) group.Key) ≡ cell (pos 5) (pos 7) 1 ∷ cell (pos 9) (neg_ℤ (pos 2)) 1 ∷ []
summed = refl

-- the same sum by all
pub summed_by_all : both (query 2 (Sum V1) group.All) ≡ cell (pos 0) (pos 5) 2 ∷ []
summed_by_all = refl

-- nothing for a selection, a join or nobody
pub selected : both (query 3 Select group.All) ≡ []
selected = refl

pub joined : both (query 3 Join group.All) ≡ []
joined = refl

pub unowned : both None ≡ []
unowned = refl

-- the class at a place, where slots 0 and 3 sum v1 by key, slot 1 is nobody's, and slot 2 counts all
abbrev class_of_four : ℕ → Class
class_of_four place = class_at (
    duty_of (query 1 (Sum V1) group.Key) ∷ duty_of None ∷ duty_of (query 2 Count group.All) ∷ duty_of (query 3 (Sum V1) group.Key) ∷ []
    ) place

pub first_class : class_of_four 0 ≡ record { group = group.Key; column = Some V1; slots = true ∷ false ∷ false ∷ true ∷ [] }
first_class = refl

pub last_class : class_of_four 29 ≡ record { group = group.All; column = None; slots = false ∷ false ∷ true ∷ false ∷ [] }
last_class = refl
