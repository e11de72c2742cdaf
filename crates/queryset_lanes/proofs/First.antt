-- The least slot that is off: the first word with one, and the first bit of that word.
use Rattle.std.proofs.Common.{◌≡◌, ◌≢◌, ℕ, ◌+◌, ◌-◌, ◌*◌, ◌/◌, ◌%◌, ◌^◌, ◌<◌, ◌≤◌, Bool, true, false, cond, not, eqb, ltb, List, map, length, get_or, take, refl, sym, ap, ◌∙◌, ⊎_elim, arith, w64, lt-ltb, le-ltb, min, Some, None, position, get_or-take, length-take-le, pow_mono}
use Rattle.std.specs.Int.{bit_at, trailing_zeros, trailing_ones}
use Rattle.std.specs.List.{position_or_len}
use Rattle.std.specs.Simd.Lanes.{mask_l}
use Rattle.std.proofs.lemmas.Bool.{cases_lt, cond-true, cond-false, eqb-true, eq-eqb, not-false, true≢false}
use Rattle.std.proofs.lemmas.List.{get_or-map, get_or_past, length-map, take_all}
use Rattle.std.proofs.lemmas.List.Sums.{position_or_len_is, fails_before_first, passes_at_first}
use Rattle.std.proofs.lemmas.Nat.Bits.{bit_at_ones, bit_at-trailing_zeros, bit_at-trailing_ones}
use Rattle.std.proofs.lemmas.Simd.{bit_mask_l, mask_l-lt, Each1-get_or}
use Rattle.queryset_lanes.specs.Words.{slots_of, IsWords, IsFirstOpen}
use Rattle.queryset_lanes.specs.Inverse.{length-slots_of, get_or-slots_of}
use Rattle.queryset_lanes.proofs.Words.{slot_bit}

-- a slot before the first bit that is off in word k is on
on_before : (ws : List ℕ) (k t : ℕ) → IsWords ws → k < 8 → t < 64 → ((j : ℕ) → j < k → get_or ws j 0 ≡ 2 ^ 64 - 1) → ((i : ℕ) → i < t → bit_at (get_or ws k 0) i ≡ 1) → (s : ℕ) → s < 64 * k + t → get_or (slots_of ws) s false ≡ true
on_before ws k t is hk ht before low s h =
    slot_bit ws s (omega (arith, is.eight))
    ∙ ⊎_elim (λ l. ap (λ w. eqb (bit_at w (s % 64)) 1) (before (s / 64) l) ∙ ap (λ b. eqb b 1) (bit_at_ones 64 (s % 64) (omega arith)))
    (λ g. let here : s / 64 ≡ k = omega arith in ap (λ j. eqb (bit_at (get_or ws j 0) (s % 64)) 1) here ∙ ap (λ b. eqb b 1) (low (s % 64) (omega arith)))
    (cases_lt (s / 64) k)

-- no slot is off in the words before k, and in word k the first bit that is off is bit i
pub first_off : (ws : List ℕ) (k : ℕ) → IsWords ws → k < 8 → ((j : ℕ) → j < k → get_or ws j 0 ≡ 2 ^ 64 - 1) → get_or ws k 0 ≢ 2 ^ 64 - 1 → position_or_len (λ on. not on) (slots_of ws) ≡ 64 * k + trailing_ones w64 (get_or ws k 0)
first_off ws k is hk before here =
    let w : ℕ = get_or ws k 0 in
    let fits : w < 2 ^ 64 = Each1-get_or (λ x. x < 2 ^ 64) ws k 0 (omega (arith, is.eight)) is.fit in
    let low = bit_at-trailing_ones w64 w (omega arith) in
    let t : ℕ = trailing_ones w64 w in
    let inside : t < 64 = low.0 in
    position_or_len_is (λ on. not on) (slots_of ws) (64 * k + t) false (omega (arith, length-slots_of ws, is.eight))
    (λ s h. ap not (on_before ws k t is hk inside before low.2 s h))
    (λ _. ap not (get_or-slots_of ws k t (omega (arith, is.eight)) inside ∙ ap (λ b. eqb b 1) low.1))

-- a word that is not full has fewer than 64 ones at its low end
pub ones-lt : (ws : List ℕ) (k : ℕ) → IsWords ws → IsFirstOpen ws k → trailing_ones w64 (get_or ws k 0) < 64
ones-lt ws k is first =
    let w : ℕ = get_or ws k 0 in
    let fits : w < 2 ^ 64 = Each1-get_or (λ x. x < 2 ^ 64) ws k 0 (omega (arith, first.within, is.eight)) is.fit in
    let here : w ≢ 2 ^ 64 - 1 = first.here in
    (bit_at-trailing_ones w64 w (omega arith)).0

-- where every word is full, no slot is off
pub none_off : (ws : List ℕ) → IsWords ws → ((j : ℕ) → j < 8 → get_or ws j 0 ≡ 2 ^ 64 - 1) → position_or_len (λ on. not on) (slots_of ws) ≡ 512
none_off ws is full =
    position_or_len_is (λ on. not on) (slots_of ws) 512 false (omega (arith, length-slots_of ws, is.eight))
    (λ s h. ap not (slot_bit ws s (omega (arith, is.eight)) ∙ ap (λ w. eqb (bit_at w (s % 64)) 1) (full (s / 64) (omega arith)) ∙ ap (λ b. eqb b 1) (bit_at_ones 64 (s % 64) (omega arith))))
    (λ h. absurd (omega (arith, length-slots_of ws, is.eight)))

-- ---- the first place below a bound

position_some : (p : Bool → Bool) (xs : List Bool) (i : ℕ) → position_or_len p xs ≡ i → i < length xs → Some i ≡ position p xs
position_some p xs i e h = sym (cond-true (ltb (position_or_len p xs) (length xs)) (Some (position_or_len p xs)) None (lt-ltb (position_or_len p xs) (length xs) (omega arith)) ∙ ap Some e)

position_none : (p : Bool → Bool) (xs : List Bool) → position_or_len p xs ≡ length xs → None ≡ position p xs
position_none p xs e = sym (cond-false (ltb (position_or_len p xs) (length xs)) (Some (position_or_len p xs)) None (le-ltb (position_or_len p xs) (length xs) (omega arith)))

-- more than all are all
take_within : (xs : List Bool) (n : ℕ) → take n xs ≡ take (min n (length xs)) xs
take_within xs n = ⊎_elim
    (λ l. ap (λ k. take k xs) (omega arith))
    (λ g. take_all n xs g ∙ sym (take_all (min n (length xs)) xs (omega arith)))
    (cases_lt n (length xs))

some_below : (p : Bool → Bool) (xs : List Bool) (n i : ℕ) → n ≤ length xs → position_or_len p xs ≡ i → i < n → Some i ≡ position p (take n xs)
some_below p xs n i long e h =
    let len : length (take n xs) ≡ n = length-take-le n xs long in
    position_some p (take n xs) i (position_or_len_is p (take n xs) i false (omega arith)
    (λ k hk. ap p (get_or-take n xs k false (omega arith)) ∙ fails_before_first p xs k false (omega arith))
    (λ _. ap p (get_or-take n xs i false h ∙ ap (λ j. get_or xs j false) (sym e)) ∙ passes_at_first p xs false (omega arith))) (omega arith)

none_below : (p : Bool → Bool) (xs : List Bool) (n i : ℕ) → n ≤ length xs → position_or_len p xs ≡ i → n ≤ i → None ≡ position p (take n xs)
none_below p xs n i long e h =
    let len : length (take n xs) ≡ n = length-take-le n xs long in
    position_none p (take n xs) (position_or_len_is p (take n xs) (length (take n xs)) false (omega arith)
    (λ k hk. ap p (get_or-take n xs k false (omega arith)) ∙ fails_before_first p xs k false (omega arith))
    (λ k. absurd (omega arith)))

pub position-take_some : (p : Bool → Bool) (xs : List Bool) (n i : ℕ) → position_or_len p xs ≡ i → i < length xs → i < n → Some i ≡ position p (take n xs)
position-take_some p xs n i e within h = some_below p xs (min n (length xs)) i (omega arith) e (omega arith) ∙ ap (position p) (sym (take_within xs n))

pub position-take_none : (p : Bool → Bool) (xs : List Bool) (n i : ℕ) → position_or_len p xs ≡ i → min n (length xs) ≤ i → None ≡ position p (take n xs)
position-take_none p xs n i e h = none_below p xs (min n (length xs)) i (omega arith) e h ∙ ap (position p) (sym (take_within xs n))

-- ---- the first lane that passes a test, by the mask of the lanes that do

lane_bit : (p : ℕ → Bool) (ws : List ℕ) (k : ℕ) → k < length ws → bit_at (mask_l (map p ws)) k ≡ cond (p (get_or ws k 0)) 1 0
lane_bit p ws k h = bit_mask_l (map p ws) k ∙ ap (λ b. cond b 1 0) (get_or-map p ws k 0 false h)

set_bit : (b : Bool) → cond {A = ℕ} b 1 0 ≡ 1 → b ≡ true
set_bit true e = refl
set_bit false e = absurd (omega arith)

clear_bit : (b : Bool) → cond {A = ℕ} b 1 0 ≡ 0 → b ≡ false
clear_bit true e = absurd (omega arith)
clear_bit false e = refl

past_lanes : (p : ℕ → Bool) (ws : List ℕ) (k : ℕ) → length ws ≤ k → bit_at (mask_l (map p ws)) k ≡ 1 → ⊥
past_lanes p ws k g e =
    let off : get_or (map p ws) k false ≡ false = get_or_past (map p ws) k false (omega (arith, length-map ws p)) in
    let bit : bit_at (mask_l (map p ws)) k ≡ 0 = bit_mask_l (map p ws) k ∙ ap (λ b. cond b 1 0) off in
    omega arith

pub record IsFirstLane (p : ℕ → Bool) (ws : List ℕ) (k : ℕ) : Type 0 where
  pub within : k < length ws
  pub before : (j : ℕ) → j < k → p (get_or ws j 0) ≡ false
  pub here : p (get_or ws k 0) ≡ true

pub first_lane : (p : ℕ → Bool) (ws : List ℕ) → length ws ≤ 64 → 0 < mask_l (map p ws) → IsFirstLane p ws (trailing_zeros w64 (mask_l (map p ws)))
first_lane p ws short some =
    let m : ℕ = mask_l (map p ws) in
    let t : ℕ = trailing_zeros w64 m in
    let few : length (map p ws) ≤ 64 = omega (arith, length-map ws p) in
    let fits : m < 2 ^ 64 = omega (arith, mask_l-lt (map p ws), pow_mono few) in
    let low = bit_at-trailing_zeros w64 m some fits in
    let inside : t < length ws = ⊎_elim (λ l. l) (λ g. absurd (past_lanes p ws t g low.1)) (cases_lt t (length ws)) in
    record {
      within = inside;
      before = λ j h. clear_bit (p (get_or ws j 0)) (sym (lane_bit p ws j (omega arith)) ∙ low.2 j h);
      here = set_bit (p (get_or ws t 0)) (sym (lane_bit p ws t inside) ∙ low.1);
    }

-- the first word that is not full
pub first_open_lane : (ws : List ℕ) → IsWords ws → 0 < mask_l (map (λ w. not (eqb w (2 ^ 64 - 1))) ws) → IsFirstOpen ws (trailing_zeros w64 (mask_l (map (λ w. not (eqb w (2 ^ 64 - 1))) ws)))
first_open_lane ws is some =
    let p : ℕ → Bool = λ w. not (eqb w (2 ^ 64 - 1)) in
    let k : ℕ = trailing_zeros w64 (mask_l (map p ws)) in
    let first = first_lane p ws (omega (arith, is.eight)) some in
    record {
      within = omega (arith, first.within, is.eight);
      before = λ j h. eqb-true (get_or ws j 0) (2 ^ 64 - 1) (not-false (eqb (get_or ws j 0) (2 ^ 64 - 1)) (first.before j h));
      here = λ e. true≢false (sym first.here ∙ ap not (eq-eqb (get_or ws k 0) (2 ^ 64 - 1) e));
    }
