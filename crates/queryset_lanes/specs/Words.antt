-- Slots as the bits of words.
use Rattle.std.specs.Prelude.{◌≡◌, ◌≢◌, ℕ, ◌+◌, ◌-◌, ◌*◌, ◌<◌, ◌^◌, Bool, false, ◌==◌, List, map, length, slice_index, slice_index_or}
use Rattle.std.specs.List.{flat_map, range_with_len}
use Rattle.std.specs.Int.{bit_at}
use Rattle.std.specs.Simd.Lanes.{mask_l, Each1}

-- the 64 slots of a word, the lowest bit first
unfoldable pub word_slots : ℕ → List Bool
word_slots word = map (λ i. bit_at word i == 1) (range_with_len 0 64)

-- the 512 slots of eight words
unfoldable pub slots_of : List ℕ → List Bool
slots_of words = flat_map word_slots words

-- the word of the 64 slots from this place on
unfoldable pub word_at : List Bool → ℕ → ℕ
word_at slots from = mask_l (map (λ i. slice_index_or slots (from + i) false) (range_with_len 0 64))

-- the eight words of 512 slots
unfoldable pub words_of : List Bool → List ℕ
words_of slots = map (λ k. word_at slots (64 * k)) (range_with_len 0 8)

-- eight words of 64 bits each
pub record IsWords (words : List ℕ) : Type 0 where
  pub eight : length words ≡ 8
  pub fit : Each1 (λ word. word < 2 ^ 64) words

-- every word before this one is full, and this one is not
pub record IsFirstOpen (words : List ℕ) (place : ℕ) : Type 0 where
  pub within : place < 8
  pub before : (k : ℕ) → k < place → slice_index words k ≡ 2 ^ 64 - 1
  pub here : slice_index words place ≢ 2 ^ 64 - 1
