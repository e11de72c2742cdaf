-- The slots of words: what an operation on words leaves in their slots.
use Rattle.std.proofs.Common.{⊎_elim, ◌≢◌, replicate, length-set, get_or-set_same, get_or-set_other, ◌≡◌, ℕ, zero, suc, ◌+◌, ◌-◌, ◌*◌, ◌/◌, ◌%◌, ◌^◌, ◌<◌, min, max, Bool, true, false, not, ◌&&◌, ◌||◌, eqb, List, [], ◌∷◌, ◌++◌, map, length, get_or, set, refl, sym, ap, ◌∙◌, arith, w64, ext_get_or}
use Rattle.std.specs.Int.{bit_at, bit_not}
use Rattle.std.specs.Int.Bits.{bit_and, bit_or, and_lt, or_lt}
use Rattle.std.specs.Simd.Lanes.{zip2, Each1}
use Rattle.std.proofs.lemmas.Bool.{cases_eq}
use Rattle.std.proofs.lemmas.Nat.Bits.{bit_at_and, bit_at_or, bit_at_not, bit_at-lt, bit_at-zero, bit_at_ones, bit_at_set_same, bit_at_set_other, bit_at_clear_same, bit_at_clear_other}
use Rattle.std.proofs.lemmas.Simd.{length-zip2, get_or-zip2, Each1-zip2, Each2-of}
use Rattle.std.proofs.lemmas.List.{set-append_left, set-append_right, length-map, length-replicate, get_or-replicate, replicate-append-replicate}
use Rattle.queryset_lanes.specs.Slots.{both, either, but_not}
use Rattle.queryset_lanes.specs.Words.{word_slots, slots_of, IsWords}
use Rattle.queryset_lanes.specs.Inverse.{length-word_slots, get_or-word_slots, length-slots_of, get_or-slots_of}

-- two bits, by their four cases
two_bits : (P : ℕ → ℕ → Type 0) → P 0 0 → P 0 1 → P 1 0 → P 1 1 → (x y : ℕ) → x < 2 → y < 2 → P x y
two_bits P p q r s zero zero h k = p
two_bits P p q r s zero (suc zero) h k = q
two_bits P p q r s (suc zero) zero h k = r
two_bits P p q r s (suc zero) (suc zero) h k = s
two_bits P p q r s (suc (suc x)) y h k = absurd (omega arith)
two_bits P p q r s zero (suc (suc y)) h k = absurd (omega arith)
two_bits P p q r s (suc zero) (suc (suc y)) h k = absurd (omega arith)

-- the slots of a word are fixed by its bits
pub word_slots_are : (w : ℕ) (xs : List Bool) → length xs ≡ 64 → ((i : ℕ) → i < 64 → get_or xs i false ≡ eqb (bit_at w i) 1) → word_slots w ≡ xs
word_slots_are w xs long each =
    let same : length (word_slots w) ≡ length xs = length-word_slots w ∙ sym long in
    ext_get_or false (word_slots w) xs same (λ i h.
    let below : i < 64 = omega (arith, length-word_slots w) in
    get_or-word_slots w i below ∙ sym (each i below))

word_slots-zip2 : (g : Bool → Bool → Bool) (a b w : ℕ) → ((i : ℕ) → i < 64 → eqb (bit_at w i) 1 ≡ g (eqb (bit_at a i) 1) (eqb (bit_at b i) 1)) → word_slots w ≡ zip2 g (word_slots a) (word_slots b)
word_slots-zip2 g a b w each =
    let long : length (zip2 g (word_slots a) (word_slots b)) ≡ 64 = length-zip2 g (word_slots a) (word_slots b) (length-word_slots a ∙ sym (length-word_slots b)) ∙ length-word_slots a in
    word_slots_are w (zip2 g (word_slots a) (word_slots b)) long (λ i h.
    let ha : i < length (word_slots a) = omega (arith, length-word_slots a) in
    let hb : i < length (word_slots b) = omega (arith, length-word_slots b) in
    get_or-zip2 g (word_slots a) (word_slots b) i false false false ha hb
    ∙ ap (λ x. g x (get_or (word_slots b) i false)) (get_or-word_slots a i h)
    ∙ ap (λ y. g (eqb (bit_at a i) 1) y) (get_or-word_slots b i h)
    ∙ sym (each i h))

pub word_slots-bit_and : (a b : ℕ) → word_slots (bit_and a b) ≡ both (word_slots a) (word_slots b)
word_slots-bit_and a b = word_slots-zip2 (λ x y. x && y) a b (bit_and a b) (λ i h.
    ap (λ n. eqb n 1) (bit_at_and a b i)
    ∙ two_bits (λ x y. eqb (min x y) 1 ≡ (eqb x 1 && eqb y 1)) refl refl refl refl (bit_at a i) (bit_at b i) (bit_at-lt a i) (bit_at-lt b i))

pub word_slots-bit_or : (a b : ℕ) → word_slots (bit_or a b) ≡ either (word_slots a) (word_slots b)
word_slots-bit_or a b = word_slots-zip2 (λ x y. x || y) a b (bit_or a b) (λ i h.
    ap (λ n. eqb n 1) (bit_at_or a b i)
    ∙ two_bits (λ x y. eqb (max x y) 1 ≡ (eqb x 1 || eqb y 1)) refl refl refl refl (bit_at a i) (bit_at b i) (bit_at-lt a i) (bit_at-lt b i))

pub word_slots-but_not : (a b : ℕ) → b < 2 ^ 64 → word_slots (bit_and a (bit_not w64 b)) ≡ but_not (word_slots a) (word_slots b)
word_slots-but_not a b fits = word_slots-zip2 (λ x y. x && not y) a b (bit_and a (bit_not w64 b)) (λ i h.
    ap (λ n. eqb n 1) (bit_at_and a (bit_not w64 b) i)
    ∙ ap (λ n. eqb (min (bit_at a i) n) 1) (bit_at_not w64 b i fits h)
    ∙ two_bits (λ x y. eqb (min x (1 - y)) 1 ≡ (eqb x 1 && not (eqb y 1))) refl refl refl refl (bit_at a i) (bit_at b i) (bit_at-lt a i) (bit_at-lt b i))

-- ---- words, pair by pair

pub IsWords-zip2 : (f : ℕ → ℕ → ℕ) → ((a b : ℕ) → a < 2 ^ 64 → b < 2 ^ 64 → f a b < 2 ^ 64) → (xs ys : List ℕ) → IsWords xs → IsWords ys → IsWords (zip2 f xs ys)
IsWords-zip2 f fits xs ys x y = record {
  eight = length-zip2 f xs ys (x.eight ∙ sym y.eight) ∙ x.eight;
  fit = Each1-zip2 f (λ w. w < 2 ^ 64) xs ys (Each2-of (λ w. w < 2 ^ 64) (λ w. w < 2 ^ 64) (λ a b. f a b < 2 ^ 64) fits xs ys x.fit y.fit);
}

Each1-map : (P Q : ℕ → Type 0) (f : ℕ → ℕ) → ((a : ℕ) → P a → Q (f a)) → (xs : List ℕ) → Each1 P xs → Each1 Q (map f xs)
Each1-map P Q f each [] h = tt
Each1-map P Q f each (x ∷ xs) h = (each x h.0, Each1-map P Q f each xs h.1)

pub IsWords-map : (f : ℕ → ℕ) → ((a : ℕ) → a < 2 ^ 64 → f a < 2 ^ 64) → (xs : List ℕ) → IsWords xs → IsWords (map f xs)
IsWords-map f fits xs x = record {
  eight = length-map xs f ∙ x.eight;
  fit = Each1-map (λ w. w < 2 ^ 64) (λ w. w < 2 ^ 64) f fits xs x.fit;
}

zip2-append : (g : Bool → Bool → Bool) (us vs cs ds : List Bool) → length us ≡ length vs → zip2 g (us ++ cs) (vs ++ ds) ≡ zip2 g us vs ++ zip2 g cs ds
zip2-append g [] [] cs ds e = refl
zip2-append g [] (v ∷ vs) cs ds e = absurd (omega arith)
zip2-append g (u ∷ us) [] cs ds e = absurd (omega arith)
zip2-append g (u ∷ us) (v ∷ vs) cs ds e = ap (λ t. g u v ∷ t) (zip2-append g us vs cs ds (omega arith))

-- what an operation does to the slots of each two words, it does to the slots of all
pub slots_of-zip2 : (g : Bool → Bool → Bool) (f : ℕ → ℕ → ℕ) → ((a b : ℕ) → b < 2 ^ 64 → word_slots (f a b) ≡ zip2 g (word_slots a) (word_slots b)) → (xs ys : List ℕ) → length xs ≡ length ys → Each1 (λ w. w < 2 ^ 64) ys → slots_of (zip2 f xs ys) ≡ zip2 g (slots_of xs) (slots_of ys)
unfolding slots_of
slots_of-zip2 g f each [] [] e h = refl
slots_of-zip2 g f each [] (y ∷ ys) e h = absurd (omega arith)
slots_of-zip2 g f each (x ∷ xs) [] e h = absurd (omega arith)
slots_of-zip2 g f each (x ∷ xs) (y ∷ ys) e h =
    ap (λ t. t ++ slots_of (zip2 f xs ys)) (each x y h.0)
    ∙ ap (λ t. zip2 g (word_slots x) (word_slots y) ++ t) (slots_of-zip2 g f each xs ys (omega arith) h.1)
    ∙ sym (zip2-append g (word_slots x) (word_slots y) (slots_of xs) (slots_of ys) (length-word_slots x ∙ sym (length-word_slots y)))

zip2-map_right : (f : ℕ → ℕ → ℕ) (h : ℕ → ℕ) (xs ys : List ℕ) → zip2 f xs (map h ys) ≡ zip2 (λ a b. f a (h b)) xs ys
zip2-map_right f h [] ys = refl
zip2-map_right f h (x ∷ xs) [] = refl
zip2-map_right f h (x ∷ xs) (y ∷ ys) = ap (λ t. f x (h y) ∷ t) (zip2-map_right f h xs ys)

pub slots_of-both : (xs ys : List ℕ) → IsWords xs → IsWords ys → slots_of (zip2 bit_and xs ys) ≡ both (slots_of xs) (slots_of ys)
slots_of-both xs ys x y = slots_of-zip2 (λ a b. a && b) bit_and (λ a b h. word_slots-bit_and a b) xs ys (x.eight ∙ sym y.eight) y.fit

pub slots_of-either : (xs ys : List ℕ) → IsWords xs → IsWords ys → slots_of (zip2 bit_or xs ys) ≡ either (slots_of xs) (slots_of ys)
slots_of-either xs ys x y = slots_of-zip2 (λ a b. a || b) bit_or (λ a b h. word_slots-bit_or a b) xs ys (x.eight ∙ sym y.eight) y.fit

pub slots_of-but_not : (xs ys : List ℕ) → IsWords xs → IsWords ys → slots_of (zip2 bit_and xs (map (bit_not w64) ys)) ≡ but_not (slots_of xs) (slots_of ys)
slots_of-but_not xs ys x y =
    ap slots_of (zip2-map_right bit_and (bit_not w64) xs ys)
    ∙ slots_of-zip2 (λ a b. a && not b) (λ a b. bit_and a (bit_not w64 b)) word_slots-but_not xs ys (x.eight ∙ sym y.eight) y.fit

pub IsWords-both : (xs ys : List ℕ) → IsWords xs → IsWords ys → IsWords (zip2 bit_and xs ys)
IsWords-both = IsWords-zip2 bit_and (and_lt 64)

pub IsWords-either : (xs ys : List ℕ) → IsWords xs → IsWords ys → IsWords (zip2 bit_or xs ys)
IsWords-either = IsWords-zip2 bit_or (or_lt 64)

pub IsWords-not : (xs : List ℕ) → IsWords xs → IsWords (map (bit_not w64) xs)
IsWords-not = IsWords-map (bit_not w64) (λ a h. omega arith)

-- what the operations leave in the words and in their slots, for the tactics
pub ruleset operations = (IsWords-both, IsWords-either, slots_of-both, slots_of-either, slots_of-but_not)

-- ---- all slots on, or none

word_slots_all : (w : ℕ) (on : Bool) → ((i : ℕ) → i < 64 → eqb (bit_at w i) 1 ≡ on) → word_slots w ≡ replicate 64 on
word_slots_all w on each = word_slots_are w (replicate 64 on) (length-replicate 64 on) (λ i h. get_or-replicate 64 i on false h ∙ sym (each i h))

slots_of_all : (w : ℕ) (on : Bool) → word_slots w ≡ replicate 64 on → (n : ℕ) → slots_of (replicate n w) ≡ replicate (64 * n) on
unfolding slots_of
slots_of_all w on e zero = refl
slots_of_all w on e (suc n) =
    ap (λ t. t ++ slots_of (replicate n w)) e
    ∙ ap (λ t. replicate 64 on ++ t) (slots_of_all w on e n)
    ∙ replicate-append-replicate 64 (64 * n) on
    ∙ ap (λ k. replicate k on) (omega arith)

pub slots_of_none : slots_of (replicate 8 0) ≡ replicate 512 false
slots_of_none = slots_of_all 0 false (word_slots_all 0 false (λ i h. ap (λ n. eqb n 1) (bit_at-zero i))) 8

pub slots_of_full : slots_of (replicate 8 (2 ^ 64 - 1)) ≡ replicate 512 true
slots_of_full = slots_of_all (2 ^ 64 - 1) true (word_slots_all (2 ^ 64 - 1) true (λ i h. ap (λ n. eqb n 1) (bit_at_ones 64 i h))) 8

-- ---- one slot

pub length-slots_of-words : (ws : List ℕ) → IsWords ws → length (slots_of ws) ≡ 512
length-slots_of-words ws is = omega (arith, length-slots_of ws, is.eight)

pub slot_bit : (ws : List ℕ) (s : ℕ) → s < 64 * length ws → get_or (slots_of ws) s false ≡ eqb (bit_at (get_or ws (s / 64) 0) (s % 64)) 1
slot_bit ws s h =
    let whole : 64 * (s / 64) + s % 64 ≡ s = omega arith in
    ap (λ n. get_or (slots_of ws) n false) (sym whole) ∙ get_or-slots_of ws (s / 64) (s % 64) (omega arith) (omega arith)

word_slots_set : (w v i : ℕ) (on : Bool) → i < 64 → eqb (bit_at v i) 1 ≡ on → ((j : ℕ) → j < 64 → j ≢ i → bit_at v j ≡ bit_at w j) → word_slots v ≡ set (word_slots w) i on
word_slots_set w v i on h here others =
    let below : i < length (word_slots w) = omega (arith, length-word_slots w) in
    word_slots_are v (set (word_slots w) i on) (length-set (word_slots w) i on ∙ length-word_slots w) (λ j hj.
    ⊎_elim (λ e. ap (λ k. get_or (set (word_slots w) i on) k false) e ∙ get_or-set_same (word_slots w) i on false below ∙ sym here ∙ ap (λ k. eqb (bit_at v k) 1) (sym e))
    (λ ne. get_or-set_other (word_slots w) i j on false ne ∙ get_or-word_slots w j hj ∙ ap (λ n. eqb n 1) (sym (others j hj ne)))
    (cases_eq j i))

pub word_slots-set_on : (w i : ℕ) → i < 64 → word_slots (bit_or w (1 * 2 ^ i % 2 ^ 64)) ≡ set (word_slots w) i true
word_slots-set_on w i h = word_slots_set w (bit_or w (1 * 2 ^ i % 2 ^ 64)) i true h (ap (λ n. eqb n 1) (bit_at_set_same w64 w i h)) (λ j hj ne. bit_at_set_other w64 w i h j ne)

pub word_slots-set_off : (w i : ℕ) → i < 64 → word_slots (bit_and w (bit_not w64 (1 * 2 ^ i % 2 ^ 64))) ≡ set (word_slots w) i false
word_slots-set_off w i h = word_slots_set w (bit_and w (bit_not w64 (1 * 2 ^ i % 2 ^ 64))) i false h (ap (λ n. eqb n 1) (bit_at_clear_same w64 w i h)) (λ j hj ne. bit_at_clear_other w64 w i h j hj ne)

slots_of-set_at : (ws : List ℕ) (k i v : ℕ) (on : Bool) → k < length ws → i < 64 → word_slots v ≡ set (word_slots (get_or ws k 0)) i on → slots_of (set ws k v) ≡ set (slots_of ws) (64 * k + i) on
unfolding slots_of
slots_of-set_at [] k i v on hk hi e = absurd (omega arith)
slots_of-set_at (w ∷ ws) zero i v on hk hi e =
    ap (λ t. t ++ slots_of ws) e ∙ sym (set-append_left (word_slots w) (slots_of ws) i on (omega (arith, length-word_slots w))) ∙ ap (λ n. set (word_slots w ++ slots_of ws) n on) (omega arith)
slots_of-set_at (w ∷ ws) (suc k) i v on hk hi e =
    ap (λ t. word_slots w ++ t) (slots_of-set_at ws k i v on (omega arith) hi e)
    ∙ ap (λ n. word_slots w ++ set (slots_of ws) n on) (omega arith)
    ∙ sym (set-append_right (word_slots w) (slots_of ws) 64 (64 * suc k + i) on (length-word_slots w) (omega arith))

pub slots_of-set : (ws : List ℕ) (s v : ℕ) (on : Bool) → s < 64 * length ws → word_slots v ≡ set (word_slots (get_or ws (s / 64) 0)) (s % 64) on → slots_of (set ws (s / 64) v) ≡ set (slots_of ws) s on
slots_of-set ws s v on h e =
    let whole : 64 * (s / 64) + s % 64 ≡ s = omega arith in
    slots_of-set_at ws (s / 64) (s % 64) v on (omega arith) (omega arith) e ∙ ap (λ n. set (slots_of ws) n on) whole

-- a word in which one slot was turned on or off, in place of the word that it was
pub slots_of-with : (ws : List ℕ) (slots : List Bool) (k s v : ℕ) (on : Bool) → IsWords ws → slots_of ws ≡ slots → s < 512 → k ≡ s / 64 → word_slots v ≡ set (word_slots (get_or ws k 0)) (s % 64) on → slots_of (set ws k v) ≡ set slots s on
slots_of-with ws slots k s v on is same h place each =
    ap (λ j. slots_of (set ws j v)) place
    ∙ slots_of-set ws s v on (omega (arith, is.eight)) (each ∙ ap (λ j. set (word_slots (get_or ws j 0)) (s % 64) on) place)
    ∙ ap (λ t. set t s on) same

Each1-set : (P : ℕ → Type 0) (xs : List ℕ) (k v : ℕ) → P v → Each1 P xs → Each1 P (set xs k v)
Each1-set P [] k v p h = tt
Each1-set P (x ∷ xs) zero v p h = (p, h.1)
Each1-set P (x ∷ xs) (suc k) v p h = (h.0, Each1-set P xs k v p h.1)

pub IsWords-set : (ws : List ℕ) (k v : ℕ) → v < 2 ^ 64 → IsWords ws → IsWords (set ws k v)
IsWords-set ws k v h is = record { eight = length-set ws k v ∙ is.eight; fit = Each1-set (λ w. w < 2 ^ 64) ws k v h is.fit }
