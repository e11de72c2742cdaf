-- What a step over the slots of a set is.
use Rattle.std.specs.Prelude.{◌≡◌, ◌≢◌, ℕ, ◌<◌, ◌≤◌, Bool, true, false, List, length, count_by, slice_index_or, slice_set}
use Rattle.queryset_lanes.specs.Words.{IsWords}

-- the slot is in the set
abbrev pub has : List Bool → ℕ → Bool
has set slot = slice_index_or set slot false

-- The least slot of the set was taken out of it.
pub record IsTaken (old new : List Bool) (slot : ℕ) : Type 0 where
  pub within : slot < 512
  pub was : has old slot ≡ true
  pub least : (s : ℕ) → s < slot → has old s ≡ false
  pub gone : new ≡ slice_set old slot false
  pub fewer : count_by (λ on. on) new < count_by (λ on. on) old

-- The word has a slot, and none from this place on and before it has one.
pub record IsFirstWord (words : List ℕ) (from place : ℕ) : Type 0 where
  pub after : from ≤ place
  pub within : place < length words
  pub before : (k : ℕ) → from ≤ k → k < place → slice_index_or words k 0 ≡ 0
  pub here : slice_index_or words place 0 ≢ 0

-- Eight words, of which those before the place have no slot.
pub record IsWalk (words : List ℕ) (place : ℕ) : Type 0 where
  pub words_are : IsWords words
  pub done : (k : ℕ) → k < place → slice_index_or words k 0 ≡ 0
