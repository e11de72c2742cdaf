-- Worked rows of slices, evaluated on the definitions alone.
use Rattle.std.specs.Prelude.{◌≡◌, ℕ, pos, true, false, refl, Bool, Some, None, List, [], ◌∷◌, replicate}
use Rattle.as_base.specs.declared.item.Record.{Record}
use Rattle.as_base.specs.declared.stream.StreamId.TheVariants.{B}
use Rattle.by_start.specs.declared.Begun.{Begun}
use Rattle.by_start.specs.Order.{begun, range_of, without, with_begun}
use Rattle.slice_store.specs.declared.placements.Held.{Held}
use Rattle.slice_store.specs.Placed.{Placed, placed, may_go}
use Rattle.slice_store.specs.Slices.{held, slice_of, placed_at, epoch_at, with_placed}

-- a record with this number and time
abbrev at : ℕ → ℕ → Record
at seq time = record { seq = seq; given = record { stream = B; time = time; key = pos 0; v = replicate 4 (pos 0) } }

-- the sets of the first slot, of the second, and of none
abbrev one : List Bool
one = true ∷ false ∷ []

abbrev two : List Bool
two = false ∷ true ∷ []

abbrev none : List Bool
none = false ∷ false ∷ []

abbrev first : Placed
first = placed (at 1 3) one

abbrev second : Placed
second = placed (at 2 4) two

abbrev third : Placed
third = placed (at 3 15) one

abbrev fourth : Placed
fourth = placed (at 4 6) two

-- two records in the slice that begins at 0, which keeps its epoch, and one in that which begins at 11
abbrev zeroth : Held
zeroth = with_placed 9 second (Some (with_placed 1 first None))

abbrev row : List (Begun Held)
row = with_begun 11 (with_placed 2 third None) (with_begun 0 zeroth [])

pub row_is : row ≡ begun 0 (held 1 (first ∷ second ∷ [])) ∷ begun 11 (held 2 (third ∷ [])) ∷ []
row_is = refl

pub placed_at_start : placed_at 0 row ≡ first ∷ second ∷ []
placed_at_start = refl

pub placed_at_no_start : placed_at 5 row ≡ []
placed_at_no_start = refl

pub epoch_stays : epoch_at 0 row ≡ Some 1
epoch_stays = refl

pub epoch_at_no_start : epoch_at 5 row ≡ None
epoch_at_no_start = refl

pub until_eleven : range_of 0 11 row ≡ (0, 1)
until_eleven = refl

pub from_eleven : range_of 11 100 row ≡ (1, 2)
from_eleven = refl

pub from_twelve : range_of 12 13 row ≡ (0, 0)
from_twelve = refl

-- a slice that comes later stands between
pub between : with_begun 5 (with_placed 3 fourth None) row ≡ begun 0 zeroth ∷ begun 5 (held 3 (fourth ∷ [])) ∷ begun 11 (held 2 (third ∷ [])) ∷ []
between = refl

-- a window waits for the first record, whatever its time
pub window_waits : may_go one none 100 (slice_of row 0).placed ≡ false
window_waits = refl

-- a selection waits for the second, of time 4, while the watermark is not past it
pub selection_waits : may_go none two 4 (slice_of row 0).placed ≡ false
selection_waits = refl

pub selection_is_done : may_go none two 5 (slice_of row 0).placed ≡ true
selection_is_done = refl

pub first_gone : without 0 row ≡ begun 11 (held 2 (third ∷ [])) ∷ []
first_gone = refl
