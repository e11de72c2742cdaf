-- A fact of each element, where elements change.
use Rattle.std.proofs.Common.{◌≡◌, ℕ, zero, suc, ◌<◌, List, [], ◌∷◌, ◌++◌, length, get_or, set, take, drop, replicate, Result, Ok, Err, OnOk, OnErr, refl, ap, ◌∙◌, arith}
use Rattle.std.specs.List.{AllByRecursion}

module _ {X : Type 0} (P : X → Type 0) where
  pub all-at : (xs : List X) (i : ℕ) (d : X) → i < length xs → AllByRecursion P xs → P (get_or xs i d)
  all-at [] i d low h = absurd (omega (arith, low))
  all-at (x ∷ xs) zero d low h = h.0
  all-at (x ∷ xs) (suc i) d low h = all-at xs i d (omega (arith, low)) h.1

  pub all-set : (xs : List X) (i : ℕ) (x : X) → AllByRecursion P xs → P x → AllByRecursion P (set xs i x)
  all-set [] i x h one = tt
  all-set (y ∷ xs) zero x h one = (one, h.1)
  all-set (y ∷ xs) (suc i) x h one = (h.0, all-set xs i x h.1 one)

  pub all-append : (xs ys : List X) → AllByRecursion P xs → AllByRecursion P ys → AllByRecursion P (xs ++ ys)
  all-append [] ys h k = k
  all-append (x ∷ xs) ys h k = (h.0, all-append xs ys h.1 k)

  pub all-replicate : (n : ℕ) (x : X) → P x → AllByRecursion P (replicate n x)
  all-replicate zero x one = tt
  all-replicate (suc n) x one = (one, all-replicate n x one)

module _ {X : Type 0} where
  take-own : (xs ys : List X) → take (length xs) (xs ++ ys) ≡ xs
  take-own [] ys = refl
  take-own (x ∷ xs) ys = ap (λ l. x ∷ l) (take-own xs ys)

  -- what a slice of a whole vector leaves in it
  pub written-back : (len : ℕ) (new items : List X) → len ≡ length items → length new ≡ length items → take len (new ++ drop (length new) items) ≡ new
  written-back len new items is long = ap (λ n. take n (new ++ drop (length new) items)) (let e : len ≡ length new = omega (arith, is, long) in e) ∙ take-own new (drop (length new) items)

-- what stands anyway stands after an error
pub on-err : {T E P : Type 0} (r : Result T E) → P → OnErr r P
on-err (Ok x) p = tt
on-err (Err e) p = p

-- what stands after a value and after an error stands
pub on-either : {T E A B P : Type 0} (r : Result T E) → OnOk r A → OnErr r B → (A → P) → (B → P) → P
on-either (Ok x) a b f h = f a
on-either (Err e) a b f h = h b
