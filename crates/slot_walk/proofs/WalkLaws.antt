-- Slots of words: those of a word without a bit are off, and the lowest bit of the first other word is the least slot.
use Rattle.std.proofs.Common.{◌≡◌, ◌≢◌, ℕ, zero, suc, ◌+◌, ◌*◌, ◌/◌, ◌%◌, ◌^◌, ◌<◌, ◌≤◌, Bool, true, false, cond, eqb, List, length, get_or, set, refl, ap, ◌∙◌, ⊎_elim, arith, w64}
use Rattle.std.specs.Int.{bit_at, trailing_zeros}
use Rattle.std.specs.List.{count_by}
use Rattle.std.proofs.lemmas.Bool.{cases_lt}
use Rattle.std.proofs.lemmas.List.{get_or_past}
use Rattle.std.proofs.lemmas.List.Sums.{sum_by-set}
use Rattle.std.proofs.lemmas.Nat.Bits.{bit_at-zero, bit_at-trailing_zeros}
use Rattle.std.proofs.lemmas.Simd.{Each1-get_or}
use Rattle.queryset_lanes.specs.Words.{slots_of, IsWords}
use Rattle.queryset_lanes.specs.Inverse.{get_or-slots_of}
use Rattle.queryset_lanes.proofs.Words.{slot_bit, length-slots_of-words}
use Rattle.slot_walk.specs.Walk.{has, IsTaken, IsFirstWord, IsWalk}

-- no word from one place on and before another has a slot
pub record AreEmpty (words : List ℕ) (from place : ℕ) : Type 0 where
  pub after : from ≤ place
  pub empty : (k : ℕ) → from ≤ k → k < place → get_or words k 0 ≡ 0

above : (n : ℕ) → n ≢ 0 → 0 < n
above zero h = absurd (h refl)
above (suc n) h = omega arith

module _ (ws : List ℕ) (is : IsWords ws) where
  -- a slot of a word without a bit is off
  pub off : (s : ℕ) → get_or ws (s / 64) 0 ≡ 0 → get_or (slots_of ws) s false ≡ false
  off s e = ⊎_elim
      (λ lt. slot_bit ws s (omega (arith, lt, is.eight)) ∙ ap (λ w. eqb (bit_at w (s % 64)) 1) e ∙ ap (λ n. eqb n 1) (bit_at-zero (s % 64)))
      (λ ge. get_or_past (slots_of ws) s false (omega (arith, ge, length-slots_of-words ws is)))
      (cases_lt s 512)

  pub fits : (k : ℕ) → k < 8 → get_or ws k 0 < 2 ^ 64
  fits k h = Each1-get_or (λ w. w < 2 ^ 64) ws k 0 (omega (arith, h, is.eight)) is.fit

  module _ (k : ℕ) (within : k < 8) (some : get_or ws k 0 ≢ 0) where
    low : (trailing_zeros w64 (get_or ws k 0) < 64) × (bit_at (get_or ws k 0) (trailing_zeros w64 (get_or ws k 0)) ≡ 1) × ((i : ℕ) → i < trailing_zeros w64 (get_or ws k 0) → bit_at (get_or ws k 0) i ≡ 0)
    low = bit_at-trailing_zeros w64 (get_or ws k 0) (above (get_or ws k 0) some) (fits k within)

    pub inside : trailing_zeros w64 (get_or ws k 0) < 64
    inside = low.0

    -- the lowest bit of a word is a slot
    pub lowest_on : get_or (slots_of ws) (64 * k + trailing_zeros w64 (get_or ws k 0)) false ≡ true
    lowest_on = get_or-slots_of ws k (trailing_zeros w64 (get_or ws k 0)) (omega (arith, within, is.eight)) inside ∙ ap (λ n. eqb n 1) low.1

    -- and no slot of the word is below it
    pub below_off : (s : ℕ) → 64 * k ≤ s → s < 64 * k + trailing_zeros w64 (get_or ws k 0) → get_or (slots_of ws) s false ≡ false
    below_off s ge lt =
        let here : s / 64 ≡ k = omega (arith, ge, lt, inside) in
        slot_bit ws s (omega (arith, lt, inside, within, is.eight))
        ∙ ap (λ j. eqb (bit_at (get_or ws j 0) (s % 64)) 1) here
        ∙ ap (λ n. eqb n 1) (low.2 (s % 64) (omega (arith, ge, lt, inside)))

-- a slot that is on is taken out
pub taken : (old new : List Bool) (slot : ℕ) → slot < 512 → length old ≡ 512 → has old slot ≡ true → ((s : ℕ) → s < slot → has old s ≡ false) → new ≡ set old slot false → IsTaken old new slot
taken old new slot within long was least gone = record {
  within = within;
  was = was;
  least = least;
  gone = gone;
  fewer =
      let on : cond {A = ℕ} (get_or old slot false) 1 0 ≡ 1 = ap (λ on. cond {A = ℕ} on 1 0) was in
      let c = sum_by-set (λ on. cond {A = ℕ} on 1 0) old slot false false (omega (arith, within, long)) in
      let same = ap (λ l. count_by (λ on. on) l) gone in
      omega (arith, on, c, same);
}

-- where no word has a slot, all slots are off
pub none_on : (ws : List ℕ) (place : ℕ) → IsWalk ws place → ((k : ℕ) → place ≤ k → k < length ws → get_or ws k 0 ≡ 0) → (s : ℕ) → has (slots_of ws) s ≡ false
none_on ws place is none s = ⊎_elim
    (λ lt. off ws is.words_are s (⊎_elim
    (λ before. is.done (s / 64) before)
    (λ after. none (s / 64) after (omega (arith, lt, is.words_are.eight)))
    (cases_lt (s / 64) place)))
    (λ ge. get_or_past (slots_of ws) s false (omega (arith, ge, length-slots_of-words ws is.words_are)))
    (cases_lt s 512)

-- no slot stands below the least one of the first word that has one
pub none_below : (ws : List ℕ) (from place slot : ℕ) → IsWalk ws from → IsFirstWord ws from place → slot / 64 ≡ place
    → ((s : ℕ) → 64 * place ≤ s → s < slot → has (slots_of ws) s ≡ false) → (s : ℕ) → s < slot → has (slots_of ws) s ≡ false
none_below ws from place slot is first here least s lt = ⊎_elim
    (λ before. off ws is.words_are s (⊎_elim
    (λ early. is.done (s / 64) early)
    (λ late. first.before (s / 64) late before)
    (cases_lt (s / 64) from)))
    (λ after. least s (omega (arith, after)) lt)
    (cases_lt (s / 64) place)
