-- Eight words are given back by their slots.
use Rattle.std.proofs.Common.{subst, ◌≡◌, ℕ, zero, suc, ◌+◌, ◌*◌, ◌^◌, ◌<◌, false, cond, eqb, List, [], ◌∷◌, length, get_or, take, refl, sym, ap, ◌∙◌, arith, length-append, length-take-le, zero-add}
use Rattle.std.specs.Int.{bit_at}
use Rattle.std.specs.Simd.Lanes.{mask_l, Each1}
use Rattle.std.proofs.lemmas.Nat.Bits.{bit_at-lt, same_from_bits_below}
use Rattle.std.proofs.lemmas.Simd.{mask_l-lt, bit_mask_l, Each1-get_or}
use Rattle.std.proofs.lemmas.List.Concat.{get_or-flat_map}
use Rattle.std.proofs.lemmas.List.FromFn.{length-map-range_with_len, get_or-map-range_with_len, fill_by_all}
use Rattle.queryset_lanes.specs.Words.{word_slots, slots_of, word_at, words_of, IsWords}

-- ---- one word

-- a word has 64 slots
pub length-word_slots : (w : ℕ) → length (word_slots w) ≡ 64
unfolding word_slots
length-word_slots w = length-map-range_with_len (λ i. eqb (bit_at w i) 1) 0 64

-- each of which is a bit of it
pub get_or-word_slots : (w i : ℕ) → i < 64 → get_or (word_slots w) i false ≡ eqb (bit_at w i) 1
unfolding word_slots
get_or-word_slots w i h = get_or-map-range_with_len (λ j. eqb (bit_at w j) 1) 0 64 i i false h (zero-add i)

-- a word is the number that its slots spell
pub mask_l-word_slots : (w : ℕ) → w < 2 ^ 64 → mask_l (word_slots w) ≡ w
mask_l-word_slots w fits =
    let below : mask_l (word_slots w) < 2 ^ 64 = let P : ℕ → Type 0 = λ n. mask_l (word_slots w) < 2 ^ n in subst P (length-word_slots w) (mask_l-lt (word_slots w)) in
    same_from_bits_below 64 (mask_l (word_slots w)) w below fits (λ i h.
    bit_mask_l (word_slots w) i
    ∙ ap (λ b. cond b 1 0) (get_or-word_slots w i h)
    ∙ one_bit (bit_at w i) (bit_at-lt w i))
  where
    one_bit : (x : ℕ) → x < 2 → cond (eqb x 1) 1 0 ≡ x
    one_bit zero h = refl
    one_bit (suc zero) h = refl
    one_bit (suc (suc x)) h = absurd (omega arith)

-- ---- eight words

-- words have 64 slots each
pub length-slots_of : (ws : List ℕ) → length (slots_of ws) ≡ 64 * length ws
unfolding slots_of
length-slots_of [] = refl
length-slots_of (w ∷ ws) = omega (arith, length-append (word_slots w) (slots_of ws), length-word_slots w, length-slots_of ws)

-- a slot is a bit of the word that it falls in
pub get_or-slots_of : (ws : List ℕ) (k i : ℕ) → k < length ws → i < 64 → get_or (slots_of ws) (64 * k + i) false ≡ eqb (bit_at (get_or ws k 0) i) 1
unfolding slots_of
get_or-slots_of ws k i hk hi =
    let long : length (word_slots (get_or ws k 0)) ≡ 64 = length-word_slots (get_or ws k 0) in
    let before : length (slots_of (take k ws)) ≡ 64 * k = length-slots_of (take k ws) ∙ ap (λ n. 64 * n) (length-take-le k ws (omega arith)) in
    ap (λ n. get_or (slots_of ws) (n + i) false) (sym before)
    ∙ get_or-flat_map word_slots ws k i 0 false hk (omega arith)
    ∙ get_or-word_slots (get_or ws k 0) i hi

-- the word that some slots spell is the word that has them
word_at-slots_of : (ws : List ℕ) → Each1 (λ w. w < 2 ^ 64) ws → (k : ℕ) → k < length ws → get_or ws k 0 ≡ word_at (slots_of ws) (64 * k)
unfolding word_at
word_at-slots_of ws fit k h =
    let w : ℕ = get_or ws k 0 in
    sym (mask_l-word_slots w (Each1-get_or (λ x. x < 2 ^ 64) ws k 0 h fit))
    ∙ ap mask_l (fill_by_all (λ i. get_or (slots_of ws) (64 * k + i) false) (word_slots w) 64 false (length-word_slots w)
    (λ i below. get_or-word_slots w i below ∙ sym (get_or-slots_of ws k i h below)))

-- eight words are given back by their slots
pub words_of-slots_of : (ws : List ℕ) → IsWords ws → words_of (slots_of ws) ≡ ws
unfolding words_of
words_of-slots_of ws is = sym (fill_by_all (λ k. word_at (slots_of ws) (64 * k)) ws 8 0 is.eight (λ k h. word_at-slots_of ws is.fit k (omega (arith, is.eight))))
