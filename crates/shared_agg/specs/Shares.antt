-- What one record adds to the cells of a slot.
use Rattle.std.specs.Prelude.{ℕ, ℤ, pos, Option, Some, None, List, [], ◌∷◌}
use Rattle.as_base.specs.declared.fragment.Cell.{Cell}
use Rattle.as_base.specs.declared.item.Given.{Given}
use Rattle.as_base.specs.declared.query.Group.{Group}
use Rattle.as_base.specs.declared.query.Kind.{Kind}
use Rattle.as_base.specs.declared.query.Kind.TheVariants.{Select, Sum, Count, Join}
use Rattle.as_base.specs.declared.query.Plan.{Plan}
use Rattle.views.specs.Groups.{value_at, group_of}

-- the cell of one record of a group, with what it adds to the sum
abbrev pub cell_of : ℤ → ℤ → Cell
cell_of group value = record { group = group; sum = value; count = 1 }

-- what a record adds for a query of this kind and group: a cell for a sum or a count, nothing for a selection or a join
abbrev pub share_of : Group → Kind → Given → List Cell
share_of by (Sum c) g = cell_of (group_of by g) (value_at c g) ∷ []
share_of by Count g = cell_of (group_of by g) (pos 0) ∷ []
share_of by Select g = []
share_of by Join g = []

-- what a record adds for the owner of a slot; nothing where nobody owns it
abbrev pub shares : Given → Option (ℕ × Plan) → List Cell
shares g None = []
shares g (Some q) = share_of q.1.group q.1.kind g
