-- Two lanes at a time: what the comparisons leave in them, and the word that they make bit by bit.
use Rattle.std.proofs.Common.{◌≡◌, ℕ, suc, ◌+◌, ◌*◌, ◌^◌, ◌%◌, ◌<◌, ◌≤◌, Bool, true, false, cond, eqb, List, [], ◌∷◌, ◌++◌, map, length, get_or, take, refl, sym, ap, ap₂, ◌∙◌, ◌&&◌, ◌-◌, ℤ, pos, int_le, to_z, of_z, w64, bit_and, drop, take_all, get_or-drop, length-drop, arith, subst, length-take-le, length-append, append_assoc}
use Rattle.std.specs.Int.Bits.{bit_or}
use Rattle.std.specs.Simd.Lanes.{mask_l, top, chunk}
use Rattle.std.proofs.lemmas.Nat.{or_comm, or_shifted}
use Rattle.std.proofs.Math.Nat.{pow-suc, mul_assoc}
use Rattle.std.proofs.lemmas.List.{take_more, length-map, map-append}
use Rattle.std.proofs.lemmas.Simd.{mask_l-lt, mask_l-mod, bit_mask_l}
use borrow.Rule.Slice.PartMut.{mid_of}
use Rattle.as_base.specs.Query.{at, is_within}
use Rattle.box_lanes.specs.Parts.{Interval, nothing, lane, is_inside}
use Rattle.queryset_lanes.specs.Words.{word_slots}
use Rattle.queryset_lanes.proofs.Words.{word_slots_are}

and_lane : (a b : Bool) → bit_and (of_z w64 (lane a)) (of_z w64 (lane b)) ≡ of_z w64 (lane (a && b))
and_lane true true = refl
and_lane true false = refl
and_lane false true = refl
and_lane false false = refl

two_bits : (a b : Bool) → mask_l (map (top 63) (of_z w64 (lane a) ∷ of_z w64 (lane b) ∷ [])) % 2 ^ 64 ≡ mask_l (a ∷ b ∷ [])
two_bits true true = refl
two_bits true false = refl
two_bits false true = refl
two_bits false false = refl

-- five lanes together
abbrev five : Bool → Bool → Bool → Bool → Bool → ℕ
five k a b c d = bit_and (bit_and (of_z w64 (lane k)) (bit_and (of_z w64 (lane a)) (of_z w64 (lane b)))) (bit_and (of_z w64 (lane c)) (of_z w64 (lane d)))

five_is : (k a b c d : Bool) → five k a b c d ≡ of_z w64 (lane (k && (a && b) && (c && d)))
five_is true a b c d = ap₂ (λ m n. bit_and (bit_and (of_z w64 (lane true)) m) n) (and_lane a b) (and_lane c d) ∙ ap (λ m. bit_and m (of_z w64 (lane (c && d)))) (and_lane true (a && b)) ∙ and_lane (a && b) (c && d)
five_is false a b c d = ap₂ (λ m n. bit_and (bit_and (of_z w64 (lane false)) m) n) (and_lane a b) (and_lane c d) ∙ ap (λ m. bit_and m (of_z w64 (lane (c && d)))) (and_lane false (a && b)) ∙ and_lane false (c && d)

-- the two bits of five pairs of lanes
pub bits_of_five : (k a b c d k' a' b' c' d' : Bool) → mask_l (map (top 63) (five k a b c d ∷ five k' a' b' c' d' ∷ [])) % 2 ^ 64 ≡ mask_l ((k && (a && b) && (c && d)) ∷ (k' && (a' && b') && (c' && d')) ∷ [])
bits_of_five k a b c d k' a' b' c' d' =
    ap₂ (λ m n. mask_l (map (top 63) (m ∷ n ∷ [])) % 2 ^ 64) (five_is k a b c d) (five_is k' a' b' c' d')
    ∙ two_bits (k && (a && b) && (c && d)) (k' && (a' && b') && (c' && d'))

-- the lanes of a slot and of the next
abbrev pub lanes_of : List Interval → ℕ → ℤ → List ℤ
lanes_of xs i z = lane (is_inside (get_or xs i nothing) z) ∷ lane (is_inside (get_or xs (i + 1) nothing) z) ∷ []

-- what two comparisons leave in a lane
pub lane_within : (low value high : ℤ) → to_z w64 (bit_and (cond (int_le low value) (2 ^ 64 - 1) 0) (cond (int_le value high) (2 ^ 64 - 1) 0)) ≡ lane (is_within low value high)
lane_within low value high = lanes (int_le low value) (int_le value high)
  where
    lanes : (a b : Bool) → to_z w64 (bit_and (cond a (2 ^ 64 - 1) 0) (cond b (2 ^ 64 - 1) 0)) ≡ lane (a && b)
    lanes true true = refl
    lanes true false = refl
    lanes false true = refl
    lanes false false = refl

take_front : {X : Type 0} (d : X) (ys : List X) → 1 < length ys → take 2 ys ≡ get_or ys 0 d ∷ get_or ys 1 d ∷ []
take_front d [] h = absurd (omega arith)
take_front d (a ∷ []) h = absurd (omega arith)
take_front d (a ∷ b ∷ ys) h = refl

-- two elements, as a vector loads them
pub loaded : (xs : List ℤ) (i : ℕ) → length xs ≡ 64 → i + 1 < 64 → chunk 0 2 (mid_of i (64 - i) xs) ≡ at xs i ∷ at xs (i + 1) ∷ []
loaded xs i long h =
    let rest = drop i xs in
    let here : i + 0 ≡ i = omega arith in
    let left : length rest ≡ 64 - i = length-drop i xs ∙ ap (λ n. n - i) long in
    ap (λ ys. take 2 ys) (take_all (64 - i) rest (omega arith))
    ∙ take_front (pos 0) rest (omega arith)
    ∙ ap₂ (λ (a b : ℤ). a ∷ b ∷ []) (get_or-drop i xs 0 (pos 0) ∙ ap (λ n. at xs n) here) (get_or-drop i xs 1 (pos 0))

mask_l-append : (xs ys : List Bool) → mask_l (xs ++ ys) ≡ mask_l ys * 2 ^ length xs + mask_l xs
mask_l-append [] ys = omega arith
mask_l-append (x ∷ xs) ys = omega (arith, mask_l-append xs ys, twice (mask_l ys) (length xs))
  where
    twice : (n k : ℕ) → n * 2 ^ suc k ≡ 2 * (n * 2 ^ k)
    twice n k = ap (λ m. n * m) (pow-suc 2 k) ∙ sym (mul_assoc n (2 ^ k) 2) ∙ omega arith

-- bits put above those of a word
pub more_bits : (xs ys : List Bool) (k : ℕ) → length xs ≡ k → k + length ys ≤ 64 → bit_or (mask_l xs) (mask_l ys * 2 ^ k % 2 ^ 64) ≡ mask_l (xs ++ ys)
more_bits xs ys k e room =
    let low : mask_l xs < 2 ^ k = let P : ℕ → Type 0 = λ n. mask_l xs < 2 ^ n in subst P e (mask_l-lt xs) in
    let whole = mask_l-append xs ys in
    let same : mask_l ys * 2 ^ k + mask_l xs ≡ mask_l (xs ++ ys) = ap (λ n. mask_l ys * 2 ^ n + mask_l xs) (sym e) ∙ sym whole in
    let fits : mask_l (xs ++ ys) < 2 ^ 64 = omega (arith, mask_l-mod (xs ++ ys) 64 (omega (arith, length-append xs ys))) in
    ap (bit_or (mask_l xs)) (mod_small (mask_l ys * 2 ^ k) (omega arith))
    ∙ or_comm (mask_l xs) (mask_l ys * 2 ^ k)
    ∙ or_shifted (mask_l ys) k (mask_l xs) low
    ∙ same
  where
    mod_small : (n : ℕ) → n < 2 ^ 64 → n % 2 ^ 64 ≡ n
    mod_small n h = omega arith

-- two elements more
pub take_two : {X : Type 0} (xs : List X) (k : ℕ) (d : X) → k + 1 < length xs → take (k + 2) xs ≡ take k xs ++ get_or xs k d ∷ get_or xs (k + 1) d ∷ []
take_two xs k d h =
    ap (λ n. take n xs) (omega arith)
    ∙ take_more xs (k + 1) d h
    ∙ ap (λ t. t ++ get_or xs (k + 1) d ∷ []) (take_more xs k d (omega arith))
    ∙ append_assoc (take k xs) (get_or xs k d ∷ []) (get_or xs (k + 1) d ∷ [])

-- the slots of a word that was made of them
pub word_slots-mask_l : (bs : List Bool) → length bs ≡ 64 → word_slots (mask_l bs) ≡ bs
word_slots-mask_l bs long = word_slots_are (mask_l bs) bs long (λ i h. sym (ap (λ n. eqb n 1) (bit_mask_l bs i) ∙ bit (get_or bs i false)))
  where
    bit : (b : Bool) → eqb (cond b 1 0) 1 ≡ b
    bit true = refl
    bit false = refl

-- the word of the first items that pass a test, and of two more
pub pair_more : {X : Type 0} (h : X → Bool) (xs : List X) (k : ℕ) (d : X) (w t : ℕ) → k + 1 < length xs → k + 2 ≤ 64 → w ≡ mask_l (map h (take k xs)) → t ≡ mask_l (h (get_or xs k d) ∷ h (get_or xs (k + 1) d) ∷ []) → bit_or w (t * 2 ^ k % 2 ^ 64) ≡ mask_l (map h (take (k + 2) xs))
pair_more h xs k d w t within room e f =
    let front = take k xs in
    let pair = get_or xs k d ∷ get_or xs (k + 1) d ∷ [] in
    let long : length (map h front) ≡ k = length-map front h ∙ length-take-le k xs (omega arith) in
    ap₂ (λ a b. bit_or a (b * 2 ^ k % 2 ^ 64)) e f
    ∙ more_bits (map h front) (map h pair) k long room
    ∙ ap mask_l (sym (map-append h front pair))
    ∙ ap (λ ys. mask_l (map h ys)) (sym (take_two xs k d within))
