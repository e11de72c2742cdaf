-- A list that is cut at the point where a test ends to pass.
use Rattle.std.proofs.Common.{◌≡◌, ℕ, Bool, true, false, not, cond, List, [], ◌∷◌, take, drop, zero, suc, refl, sym, ap, ◌∙◌, arith}
use Rattle.std.specs.List.{filter}
use Rattle.std.specs.List.Sorted.{IsPartitionPoint}

-- the elements before the point pass, the others do not
abbrev pub IsCutAt : {X : Type 0} → (X → Bool) → List X → ℕ → Type 0
IsCutAt p xs i = IsPartitionPoint (λ x. p x ≡ true) (λ x. p x ≡ false) xs i

rest-cut : {X : Type 0} (p : X → Bool) (x : X) (xs : List X) (i : ℕ) → IsCutAt p (x ∷ xs) (suc i) → IsCutAt p xs i
rest-cut p x xs i h = (λ k d low high. h.0 (suc k) d (omega arith) (omega (arith, high)), λ k d low high. h.1 (suc k) d (omega (arith, low)) (omega (arith, high)))

none-cut : {X : Type 0} (p : X → Bool) (x : X) (xs : List X) → IsCutAt p (x ∷ xs) 0 → IsCutAt p xs 0
none-cut p x xs h = (λ k d low high. absurd (omega (arith, low, high)), λ k d low high. h.1 (suc k) d (omega arith) (omega (arith, high)))

-- the elements before the point are those that pass
pub cut-before : {X : Type 0} (p : X → Bool) (i : ℕ) (xs : List X) → IsCutAt p xs i → take i xs ≡ filter p xs
cut-before p zero [] h = refl
cut-before p (suc i) [] h = refl
cut-before p zero (x ∷ xs) h = cut-before p 0 xs (none-cut p x xs h) ∙ ap (λ b. cond b (x ∷ filter p xs) (filter p xs)) (sym (h.1 0 x (omega arith) (omega arith)))
cut-before p (suc i) (x ∷ xs) h =
    ap (λ l. x ∷ l) (cut-before p i xs (rest-cut p x xs i h)) ∙ ap (λ b. cond b (x ∷ filter p xs) (filter p xs)) (sym (h.0 0 x (omega arith) (omega arith)))

-- and those from it on do not
pub cut-rest : {X : Type 0} (p : X → Bool) (i : ℕ) (xs : List X) → IsCutAt p xs i → drop i xs ≡ filter (λ x. not (p x)) xs
cut-rest p zero [] h = refl
cut-rest p (suc i) [] h = refl
cut-rest p zero (x ∷ xs) h =
    ap (λ l. x ∷ l) (cut-rest p 0 xs (none-cut p x xs h))
    ∙ ap (λ b. cond (not b) (x ∷ filter (λ x. not (p x)) xs) (filter (λ x. not (p x)) xs)) (sym (h.1 0 x (omega arith) (omega arith)))
cut-rest p (suc i) (x ∷ xs) h =
    cut-rest p i xs (rest-cut p x xs i h) ∙ ap (λ b. cond (not b) (x ∷ filter (λ x. not (p x)) xs) (filter (λ x. not (p x)) xs)) (sym (h.0 0 x (omega arith) (omega arith)))
