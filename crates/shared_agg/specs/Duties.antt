-- What the owners of slots have to be told of records: by what they group, and which column they sum.
use Rattle.std.specs.Prelude.{◌≡◌, ℕ, ℤ, pos, ◌==◌, ◌&&◌, false, Bool, Option, Some, None, List, [], ◌∷◌, map, length, slice_index_or, slice_set}
use Rattle.std.specs.List.{range_with_len, flat_map}
use Rattle.as_base.specs.declared.fragment.Cell.{Cell}
use Rattle.as_base.specs.declared.item.Given.{Given}
use Rattle.as_base.specs.declared.query.Col.{Col}
use Rattle.as_base.specs.declared.query.Col.TheVariants.{V1, V2, V3, V4}
use Rattle.as_base.specs.declared.query.Group.{Group}
use Rattle.as_base.specs.declared.query.Group.TheVariants as group
use Rattle.as_base.specs.declared.query.Kind.{Kind}
use Rattle.as_base.specs.declared.query.Kind.TheVariants.{Select, Sum, Count, Join}
use Rattle.as_base.specs.declared.query.Plan.{Plan}
use Rattle.views.specs.Groups.{value_at, group_of}
use Rattle.queryset_lanes.specs.Slots.{has_slot}
use Rattle.shared_agg.specs.declared.duties.Class.{Class}
use Rattle.shared_agg.specs.declared.duties.Duty.{Duty}
use Rattle.shared_agg.specs.Shares.{cell_of}

-- what a query of this kind and group has to be told; nothing for a selection or a join
abbrev pub duty_in : Group → Kind → Option Duty
duty_in by (Sum c) = Some (record { group = by; column = Some c })
duty_in by Count = Some (record { group = by; column = None })
duty_in by Select = None
duty_in by Join = None

-- what the owner of a slot has to be told
abbrev pub duty_of : Option (ℕ × Plan) → Option Duty
duty_of None = None
duty_of (Some q) = duty_in q.1.group q.1.kind

-- what a record adds to a sum of the column; 0 where none is summed
abbrev pub summand : Option Col → Given → ℤ
summand None g = pos 0
summand (Some c) g = value_at c g

-- what a record adds for a duty
abbrev pub dues : Given → Option Duty → List Cell
dues g None = []
dues g (Some d) = cell_of (group_of d.group g) (summand d.column g) ∷ []

-- the number of a way to group, from 0 to 5
abbrev pub way_of : Group → ℕ
way_of group.Key = 0
way_of (group.Col V1) = 1
way_of (group.Col V2) = 2
way_of (group.Col V3) = 3
way_of (group.Col V4) = 4
way_of group.All = 5

-- the number of a column that is summed, from 0 to 3; 4 where none is
abbrev pub number_of : Option Col → ℕ
number_of (Some V1) = 0
number_of (Some V2) = 1
number_of (Some V3) = 2
number_of (Some V4) = 3
number_of None = 4

-- the duty is of this group and column
abbrev pub is_of : Group → Option Col → Option Duty → Bool
is_of by column None = false
is_of by column (Some d) = (way_of d.group == way_of by) && (number_of d.column == number_of column)

-- all ways to group, and all columns to sum
abbrev pub ways : List Group
ways = group.Key ∷ group.Col V1 ∷ group.Col V2 ∷ group.Col V3 ∷ group.Col V4 ∷ group.All ∷ []

abbrev pub columns : List (Option Col)
columns = Some V1 ∷ Some V2 ∷ Some V3 ∷ Some V4 ∷ None ∷ []

-- all kinds of duties: way by way, column by column
abbrev pub kinds : List Duty
kinds = flat_map (λ by. map (λ column. record { group = by; column = column }) columns) ways

-- the slots whose duties are of a kind
abbrev pub class_of : List (Option Duty) → Duty → Class
class_of duties kind = record { group = kind.group; column = kind.column; slots = map (is_of kind.group kind.column) duties }

-- the kind at a place, and its class
abbrev pub kind_at : ℕ → Duty
kind_at place = slice_index_or kinds place (record { group = group.Key; column = Some V1 })

abbrev pub class_at : List (Option Duty) → ℕ → Class
class_at duties place = class_of duties (kind_at place)

-- the class with a slot in it or not, by whether its duty is of the class
abbrev pub marked : ℕ → Option Duty → Class → Class
marked slot duty c = record { group = c.group; column = c.column; slots = slice_set c.slots slot (is_of c.group c.column duty) }

-- the duty of a slot
abbrev pub duty_at : List (Option Duty) → ℕ → Option Duty
duty_at duties slot = slice_index_or duties slot None

-- The classes are those of the duties, and each is told to be used or not.
pub record AreClasses (duties : List (Option Duty)) (classes : List Class) (used : List Bool) : Type 0 where
  pub long : length duties ≡ 512
  pub classes_are : classes ≡ map (class_of duties) kinds
  pub used_are : used ≡ map (λ (c : Class). has_slot c.slots) classes

-- the numbers of all slots
unfoldable pub all_slots : List ℕ
all_slots = range_with_len 0 512
