-- How many slots of eight words are on, and whether one is.
use Rattle.std.proofs.Common.{◌≡◌, ℕ, zero, suc, ◌+◌, ◌*◌, ◌^◌, ◌<◌, ◌≤◌, Bool, true, false, cond, not, ◌&&◌, ◌||◌, eqb, List, [], ◌∷◌, map, refl, sym, ap, ◌∙◌, arith, ne_eqb, map-id, count_ones, count_by}
use Rattle.std.specs.Int.Bits.{bit_or, or_zero_l}
use Rattle.std.specs.Simd.Lanes.{mask_l, sum_l, fold_l, Each1}
use Rattle.std.proofs.lemmas.Nat.{le_or_l}
use Rattle.std.proofs.lemmas.Simd.{ones-mask_l}
use Rattle.std.proofs.lemmas.List.Folds.{list_any-append}
use Rattle.std.proofs.lemmas.List.Sums.{sum_by-append, count_by-le-length}
use Rattle.queryset_lanes.specs.Slots.{has_slot}
use Rattle.queryset_lanes.specs.Words.{word_slots, slots_of, IsWords}
use Rattle.queryset_lanes.specs.Inverse.{mask_l-word_slots, length-slots_of}

count-word_slots : (w : ℕ) → w < 2 ^ 64 → count_by (λ on. on) (word_slots w) ≡ count_ones w
count-word_slots w h =
    sym (ones-mask_l (λ on. on) (word_slots w))
    ∙ ap (λ bs. count_ones (mask_l bs)) (map-id (word_slots w))
    ∙ ap count_ones (mask_l-word_slots w h)

pub count-slots_of : (ws : List ℕ) → Each1 (λ w. w < 2 ^ 64) ws → count_by (λ on. on) (slots_of ws) ≡ sum_l (map count_ones ws)
unfolding slots_of
count-slots_of [] h = refl
count-slots_of (w ∷ ws) h =
    sum_by-append (λ on. cond on 1 0) (word_slots w) (slots_of ws)
    ∙ ap (λ n. n + count_by (λ on. on) (slots_of ws)) (count-word_slots w h.0)
    ∙ ap (λ n. count_ones w + n) (count-slots_of ws h.1)

pub ones_below : (ws : List ℕ) → IsWords ws → sum_l (map count_ones ws) ≤ 512
ones_below ws is = omega (arith, count-slots_of ws is.fit, count_by-le-length (λ on. on) (slots_of ws), length-slots_of ws, is.eight)

mask_l_none : (bs : List Bool) → eqb (mask_l bs) 0 ≡ not (has_slot bs)
mask_l_none [] = refl
mask_l_none (true ∷ bs) = ne_eqb (1 + 2 * mask_l bs) 0 (λ e. omega arith)
mask_l_none (false ∷ bs) = twice (mask_l bs) ∙ mask_l_none bs
  where
    twice : (n : ℕ) → eqb (0 + 2 * n) 0 ≡ eqb n 0
    twice zero = refl
    twice (suc n) = ne_eqb (0 + 2 * suc n) 0 (λ e. omega arith) ∙ sym (ne_eqb (suc n) 0 (λ e. omega arith))

or_none : (a b : ℕ) → eqb (bit_or a b) 0 ≡ (eqb a 0 && eqb b 0)
or_none zero b = ap (λ n. eqb n 0) (or_zero_l b)
or_none (suc a) b =
    ne_eqb (bit_or (suc a) b) 0 (λ e. omega (arith, le_or_l (suc a) b))
    ∙ ap (λ t. t && eqb b 0) (sym (ne_eqb (suc a) 0 (λ e. omega arith)))

-- the words together are 0 exactly where no slot is on
pub none-slots_of : (ws : List ℕ) → Each1 (λ w. w < 2 ^ 64) ws → (a : ℕ) → eqb (fold_l bit_or a ws) 0 ≡ (eqb a 0 && not (has_slot (slots_of ws)))
unfolding slots_of
none-slots_of [] h a = and_true (eqb a 0)
  where
    and_true : (b : Bool) → b ≡ (b && true)
    and_true true = refl
    and_true false = refl
none-slots_of (w ∷ ws) h a =
    none-slots_of ws h.1 (bit_or a w)
    ∙ ap (λ b. b && not (has_slot (slots_of ws))) (or_none a w)
    ∙ ap (λ b. (eqb a 0 && b) && not (has_slot (slots_of ws))) (ap (λ n. eqb n 0) (sym (mask_l-word_slots w h.0)) ∙ mask_l_none (word_slots w))
    ∙ join (eqb a 0) (has_slot (word_slots w)) (has_slot (slots_of ws))
    ∙ ap (λ b. eqb a 0 && not b) (sym (list_any-append (λ on. on) (word_slots w) (slots_of ws)))
  where
    join : (x y z : Bool) → ((x && not y) && not z) ≡ (x && not (y || z))
    join true true z = refl
    join true false z = refl
    join false y z = refl
