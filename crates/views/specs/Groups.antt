-- What the records of a window add up to, group by group.
use Rattle.std.specs.Prelude.{ℤ, pos, ◌+ℤ◌, int_le, if◌then◌else◌, List, [], ◌∷◌, Option, Some, None, length}
use Rattle.std.specs.List.{filter}
use Rattle.std.specs.Ordering.{int_eq}
use Rattle.as_base.specs.Query.{at}
use Rattle.as_base.specs.declared.item.Given.{Given}
use Rattle.as_base.specs.declared.query.Col.{Col}
use Rattle.as_base.specs.declared.query.Col.TheVariants.{V1, V2, V3, V4}
use Rattle.as_base.specs.declared.query.Group.{Group}
use Rattle.as_base.specs.declared.query.Group.TheVariants as group
use Rattle.as_base.specs.declared.query.Kind.{Kind}
use Rattle.as_base.specs.declared.query.Kind.TheVariants.{Select, Sum, Count, Join}

-- the value of the column
abbrev pub value_at : Col → Given → ℤ
value_at V1 g = at g.v 0
value_at V2 g = at g.v 1
value_at V3 g = at g.v 2
value_at V4 g = at g.v 3

-- the group of a record; 0 where all records are one
abbrev pub group_of : Group → Given → ℤ
group_of group.Key g = g.key
group_of (group.Col c) g = value_at c g
group_of group.All g = pos 0

-- the group as a row has it; none where all records are one
abbrev pub group_told : Group → ℤ → Option ℤ
group_told group.Key z = Some z
group_told (group.Col c) z = Some z
group_told group.All z = None

-- the number, put once into its place among rising ones
abbrev pub put_group : ℤ → List ℤ → List ℤ
put_group z [] = z ∷ []
put_group z (y ∷ ys) = if int_eq z y then y ∷ ys else (if int_le z y then z ∷ y ∷ ys else y ∷ put_group z ys)

-- the groups of the records, each once, by rising number
abbrev pub groups : Group → List Given → List ℤ
groups by [] = []
groups by (g ∷ gs) = put_group (group_of by g) (groups by gs)

-- those of the records that are of the group
abbrev pub of_group : Group → ℤ → List Given → List Given
of_group by z gs = filter (λ (g : Given). int_eq (group_of by g) z) gs

-- the sum of the column over the records
abbrev pub sum_of : Col → List Given → ℤ
sum_of c [] = pos 0
sum_of c (g ∷ gs) = value_at c g +ℤ sum_of c gs

-- What a query of this kind makes of the records of a group: the sum of its column, or how many they are.
abbrev pub value_of : Kind → List Given → ℤ
value_of (Sum c) gs = sum_of c gs
value_of Count gs = pos (length gs)
value_of Select gs = pos 0
value_of Join gs = pos 0
