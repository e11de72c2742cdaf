-- Worked rows: a slot that changes its owner, evaluated on the definitions alone.
use Rattle.std.specs.Prelude.{ℕ, true, false, pos, ◌≡◌, refl, Bool, List, [], ◌∷◌, take, map}
use Rattle.as_base.specs.declared.item.Given.{Given}
use Rattle.as_base.specs.declared.message.Change.{Change}
use Rattle.as_base.specs.declared.message.Change.TheVariants.{Opened, Closed}
use Rattle.as_base.specs.declared.query.Bounds.{Bounds}
use Rattle.as_base.specs.declared.query.Group.TheVariants as group
use Rattle.as_base.specs.declared.query.Kind.{Kind}
use Rattle.as_base.specs.declared.query.Kind.TheVariants.{Select, Join}
use Rattle.as_base.specs.declared.query.Plan.{Plan}
use Rattle.as_base.specs.declared.stream.StreamId.{StreamId}
use Rattle.as_base.specs.declared.stream.StreamId.TheVariants.{A, B}
use Rattle.as_base.specs.Query.{lowest, highest, unlimited}
use Rattle.changelog.specs.BySlot.{by_slot}
use Rattle.shared_select.specs.Wanting.{wanting}

-- keys from 5 to 9
abbrev some_keys : Bounds
some_keys = record {
  lo = pos 5 ∷ lowest ∷ lowest ∷ lowest ∷ lowest ∷ [];
  hi = pos 9 ∷ highest ∷ highest ∷ highest ∷ highest ∷ [];
}

-- a plan over two streams, with these bounds on the left one
abbrev plan_of : Kind → StreamId → StreamId → Bounds → Plan
plan_of kind left right bounds = record {
  kind = kind;
  group = group.All;
  left = left;
  right = right;
  left_bounds = bounds;
  right_bounds = unlimited;
  win = record { size = 100; slide = 100 };
}

-- slot 0 has a join of a and b, which wants some keys of a, then nobody, and then a selection of all of b
abbrev row : List Change
row = Opened 1 0 0 (plan_of Join A B some_keys) ∷ Closed 1 0 11 ∷ Opened 2 0 11 (plan_of Select B B unlimited) ∷ []

-- a record of this stream and key
abbrev record_of : StreamId → ℕ → Given
record_of s key = record { stream = s; time = 10; key = pos key; v = pos 0 ∷ pos 0 ∷ pos 0 ∷ pos 0 ∷ [] }

-- whether slots 0 and 1 want records of a with keys 4, 5, 9 and 10, and one of b with key 4
abbrev two_slots : ℕ → List (List Bool)
two_slots epoch =
    map (λ g. take 2 (wanting row epoch g)) (record_of A 4 ∷ record_of A 5 ∷ record_of A 9 ∷ record_of A 10 ∷ record_of B 4 ∷ [])

-- neither slot
abbrev neither : List Bool
neither = false ∷ false ∷ []

-- slot 0, and not slot 1
abbrev first_alone : List Bool
first_alone = true ∷ false ∷ []

pub none_before : two_slots 0 ≡ neither ∷ neither ∷ neither ∷ neither ∷ neither ∷ []
unfolding by_slot
none_before = refl

-- the join wants its keys of a, and all of b
pub those_of_the_join : two_slots 1 ≡ neither ∷ first_alone ∷ first_alone ∷ neither ∷ first_alone ∷ []
unfolding by_slot
those_of_the_join = refl

pub none_between : two_slots 2 ≡ neither ∷ neither ∷ neither ∷ neither ∷ neither ∷ []
unfolding by_slot
none_between = refl

-- of what the join wanted nothing is left
pub those_of_the_selection : two_slots 3 ≡ neither ∷ neither ∷ neither ∷ neither ∷ first_alone ∷ []
unfolding by_slot
those_of_the_selection = refl
