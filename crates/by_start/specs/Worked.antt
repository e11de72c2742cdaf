-- Worked rows of things by rising start, evaluated on the definitions alone.
use Rattle.std.specs.Prelude.{◌≡◌, ℕ, refl, Some, None, List, [], ◌∷◌}
use Rattle.by_start.specs.declared.Begun.{Begun}
use Rattle.by_start.specs.Order.{begun, look, start_at, thing_at, begun_before, range_of, with_begun, without, with_thing}

-- three things, of which the second was the first to come
abbrev row : List (Begun ℕ)
row = with_begun 11 110 (with_begun 3 30 (with_begun 7 70 []))

pub row_is : row ≡ begun 3 30 ∷ begun 7 70 ∷ begun 11 110 ∷ []
row_is = refl

pub look_at_start : look 7 row ≡ Some 70
look_at_start = refl

pub look_at_no_start : look 8 row ≡ None
look_at_no_start = refl

pub start_at_place : start_at 1 row ≡ 7
start_at_place = refl

pub thing_at_place : thing_at 1 row ≡ Some 70
thing_at_place = refl

pub before_eleven : begun_before 11 row ≡ 2
before_eleven = refl

-- the one that begins at 11 is not among those before 11
pub until_eleven : range_of 3 11 row ≡ (0, 2)
until_eleven = refl

pub from_eight : range_of 8 11 row ≡ (0, 0)
from_eight = refl

pub first_gone : without 0 row ≡ begun 7 70 ∷ begun 11 110 ∷ []
first_gone = refl

pub second_changed : with_thing 1 row 71 ≡ begun 3 30 ∷ begun 7 71 ∷ begun 11 110 ∷ []
second_changed = refl
