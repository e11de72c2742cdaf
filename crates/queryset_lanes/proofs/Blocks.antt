-- Counts over the blocks of a batch, and over one block.
use Rattle.std.proofs.Common.{true, false, not, eqb, get_or, map, replicate, count_ones, w64, ◌%◌, ◌^◌, ◌-◌, ◌<◌, ◌≡◌, ℕ, zero, suc, ◌+◌, ◌*◌, Bool, cond, List, [], ◌∷◌, length, take, drop, refl, sym, ap, ap₂, ◌∙◌, arith, take-add, sum_by, count_by}
use Rattle.std.specs.Simd.Lanes.{mask_l, top, zip2}
use Rattle.std.proofs.lemmas.Simd.{bitmask_splat, ones-mask_l}
use Rattle.std.specs.Simd.{first_chunks}
use Rattle.std.proofs.lemmas.List.Sums.{sum_by-append, sum_by-cons}

-- the sums over the blocks are the sum over what the blocks hold
pub sum_by-first_chunks : {X : Type 0} (h : X → ℕ) (n k : ℕ) (xs : List X) → sum_by (λ block. sum_by h block) (first_chunks n k xs) ≡ sum_by h (take (k * n) xs)
sum_by-first_chunks h n zero xs = let none : 0 ≡ 0 * n = omega arith in ap (λ m. sum_by h (take m xs)) none
sum_by-first_chunks h n (suc k) xs =
    sum_by-cons (λ block. sum_by h block) (take n xs) (first_chunks n k (drop n xs))
    ∙ ap (λ s. sum_by h (take n xs) + s) (sum_by-first_chunks h n k (drop n xs))
    ∙ sym (sum_by-append h (take n xs) (take (k * n) (drop n xs)))
    ∙ ap (sum_by h) (sym (take-add n (k * n) xs))
    ∙ (let more : n + k * n ≡ suc k * n = omega arith in ap (λ m. sum_by h (take m xs)) more)

-- two lists whose elements pass alike, place by place, have as many that pass
pub count_by_alike : {X Y : Type 0} (p : X → Bool) (q : Y → Bool) (c : X) (d : Y) (xs : List X) (ys : List Y) → length xs ≡ length ys → ((k : ℕ) → k < length xs → p (get_or xs k c) ≡ q (get_or ys k d)) → count_by p xs ≡ count_by q ys
count_by_alike p q c d [] [] e h = refl
count_by_alike p q c d [] (y ∷ ys) e h = absurd (omega arith)
count_by_alike p q c d (x ∷ xs) [] e h = absurd (omega arith)
count_by_alike p q c d (x ∷ xs) (y ∷ ys) e h =
    sum_by-cons (λ z. cond (p z) 1 0) x xs
    ∙ ap₂ (λ b n. cond b 1 0 + n) (h 0 (omega arith)) (count_by_alike p q c d xs ys (omega arith) (λ k l. h (suc k) (omega arith)))
    ∙ sym (sum_by-cons (λ z. cond (q z) 1 0) y ys)

-- the lanes that are not 0 are as many as the items that pass
pub count_lanes : {X : Type 0} (q : X → Bool) (d : X) (lanes : List ℕ) (xs : List X) → length lanes ≡ 8 → length xs ≡ 8 → ((k : ℕ) → k < 8 → eqb (get_or lanes k 0) 0 ≡ not (q (get_or xs k d))) → count_ones (mask_l (map (top 63) (zip2 (λ a b. cond (not (eqb a b)) (2 ^ 64 - 1) 0) lanes (replicate 8 0))) % 2 ^ 64) ≡ count_by q xs
count_lanes q d lanes xs long eight each =
    ap count_ones (bitmask_splat w64 (λ a b. not (eqb a b)) lanes 8 0 long (omega arith))
    ∙ ones-mask_l (λ a. not (eqb a 0)) lanes
    ∙ count_by_alike (λ a. not (eqb a 0)) q 0 d lanes xs (long ∙ sym eight) (λ k h. ap not (each k (omega arith)) ∙ not-not (q (get_or xs k d)))
  where
    not-not : (b : Bool) → not (not b) ≡ b
    not-not true = refl
    not-not false = refl
