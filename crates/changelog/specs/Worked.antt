-- A worked row of changes, evaluated on the definitions alone.
use Rattle.std.specs.Prelude.{◌≡◌, refl, Some, None, List, [], ◌∷◌}
use Rattle.as_base.specs.declared.message.Change.{Change}
use Rattle.as_base.specs.declared.message.Change.TheVariants.{Opened, Closed}
use Rattle.as_base.specs.declared.query.Group.{Group}
use Rattle.as_base.specs.declared.query.Kind.{Kind}
use Rattle.as_base.specs.declared.query.Plan.{Plan}
use Rattle.as_base.specs.declared.stream.StreamId.TheVariants.{A}
use Rattle.as_base.specs.Query.{unlimited}
use Rattle.changelog.specs.Changes.{epoch_at, owner, slice_start, greatest_below}

-- a count over windows of 100 ticks, one after the other, on a
abbrev hundreds : Plan
hundreds = record {
  kind = Kind.Count;
  group = Group.All;
  left = A;
  right = A;
  left_bounds = unlimited;
  right_bounds = unlimited;
  win = record { size = 100; slide = 100 };
}

-- it is opened, closed, and opened again
abbrev row : List Change
row = Opened 1 0 0 hundreds ∷ Closed 1 0 11 ∷ Opened 2 0 11 hundreds ∷ []

pub epoch_at_ten : epoch_at row 10 ≡ 1
epoch_at_ten = refl

pub epoch_at_eleven : epoch_at row 11 ≡ 3
epoch_at_eleven = refl

pub owner_at_first : owner row 1 0 ≡ Some (1, hundreds)
owner_at_first = refl

pub none_when_closed : owner row 2 0 ≡ None
none_when_closed = refl

pub owner_at_last : owner row 3 0 ≡ Some (2, hundreds)
owner_at_last = refl

pub start_at_ten : slice_start row A 10 ≡ 0
unfolding greatest_below
start_at_ten = refl

pub start_at_twenty : slice_start row A 20 ≡ 11
unfolding greatest_below
start_at_twenty = refl

pub start_at_hundred : slice_start row A 100 ≡ 100
unfolding greatest_below
start_at_hundred = refl
