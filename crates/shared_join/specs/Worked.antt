-- Worked rows, evaluated on the definitions alone: a record of each of two slices, in slot 0, while three changes touch it.
use Rattle.std.specs.Prelude.{◌≡◌, ℕ, ℤ, pos, refl, Bool, true, false, List, [], ◌∷◌, replicate, slice_set}
use Rattle.as_base.specs.declared.item.Given.{Given}
use Rattle.as_base.specs.declared.stream.StreamId.{StreamId}
use Rattle.as_base.specs.declared.stream.StreamId.TheVariants.{A, B}
use Rattle.changelog_set.specs.Sets.{unchanged}
use Rattle.slice_store.specs.Placed.{Placed, placed}
use Rattle.shared_join.specs.Wanted.{wanted}
use Rattle.shared_join.specs.Window.{shown, window_of}
use Rattle.views.specs.Pairs.{couple}

-- the set of slot 0
abbrev zero_alone : List Bool
zero_alone = slice_set (replicate 512 false) 0 true

-- the sets of three changes
abbrev changes : List (List Bool)
changes = zero_alone ∷ zero_alone ∷ zero_alone ∷ []

-- a record with this time and key
abbrev at : StreamId → ℕ → ℤ → Given
at s time key = record { stream = s; time = time; key = key; v = replicate 4 (pos 0) }

-- the same, placed with the set of slot 0
abbrev with_zero : Given → Placed
with_zero g = placed (record { seq = 1; given = g }) zero_alone

abbrev left : Given
left = at A 3 (pos 7)

abbrev right : Given
right = at B 15 (pos 7)

-- both slices in epoch 1
pub one_epoch : wanted (with_zero left ∷ []) (with_zero right ∷ []) (unchanged changes 1 1) ≡ record { left = left; right = right; set = zero_alone } ∷ []
unfolding wanted unchanged
one_epoch = refl

-- the one in epoch 1, the other in epoch 3
pub two_epochs : wanted (with_zero left ∷ []) (with_zero right ∷ []) (unchanged changes 1 3) ≡ []
unfolding wanted unchanged
two_epochs = refl

-- another key
pub two_keys : wanted (with_zero left ∷ []) (with_zero (at B 15 (pos 8)) ∷ []) (unchanged changes 1 1) ≡ []
unfolding wanted unchanged
two_keys = refl

-- the other stream on the left
pub turned : shown (window_of 0 0 100 true) (record { left = left; right = right; set = zero_alone }) ≡ couple right left ∷ []
turned = refl

pub another_slot : shown (window_of 1 0 100 true) (record { left = left; right = right; set = zero_alone }) ≡ []
another_slot = refl
