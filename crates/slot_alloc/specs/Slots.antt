-- Slots for queries: a truth value for each slot, true where the slot is live.
use Rattle.std.specs.Prelude.{◌≡◌, ℕ, ◌<◌, Bool, true, false, not, List, length, count_by, position, slice_index_or, slice_set, Result, Ok, Err, Option, Some, None}
use Rattle.slot_alloc.specs.declared.Full.{Full}

-- the slot is there and is live
abbrev pub is_live : List Bool → ℕ → Bool
is_live slots slot = slice_index_or slots slot false

-- how many slots are live
abbrev pub live_count : List Bool → ℕ
live_count slots = count_by (λ on. on) slots

-- the first slot that is not live, or `None` where each is live
abbrev pub least_free : List Bool → Option ℕ
least_free slots = position (λ on. not on) slots

-- the slot is there and is not live, and each below it is live
pub record IsLeastFree (slots : List Bool) (slot : ℕ) : Type 0 where
  pub within : slot < length slots
  pub free : is_live slots slot ≡ false
  pub below : (k : ℕ) → k < slot → is_live slots k ≡ true

-- the least free slot is live now, and no other slot changed; or there was none, and nothing changed
abbrev pub IsTaken : Result ℕ Full → List Bool → List Bool → Type 0
IsTaken (Ok slot) old new = (least_free old ≡ Some slot) × (new ≡ slice_set old slot true)
IsTaken (Err _) old new = (least_free old ≡ None) × (new ≡ old)
