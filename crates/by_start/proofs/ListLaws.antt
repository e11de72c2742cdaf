-- What stands at a place, and what all have, as a list changes.
use Rattle.std.proofs.Common.{◌≡◌, ℕ, zero, suc, ◌<◌, Some, List, [], ◌∷◌, length, get_or, refl, sym, ap, subst, arith}
use Rattle.std.specs.List.{AllByRecursion, insert}
use Rattle.std.proofs.lemmas.Option.{none-some, same_Some}
use Rattle.by_start.specs.declared.Begun.{Begun}
use Rattle.by_start.specs.Order.{begun, start_at, thing_at, without, with_thing}

module _ {X : Type 0} where
  -- ---- the one at a place

  pub within-found : (i : ℕ) (xs : List (Begun X)) (t : X) → thing_at i xs ≡ Some t → i < length xs
  within-found i [] t found = absurd (none-some t found)
  within-found zero (x ∷ xs) t found = omega arith
  within-found (suc i) (x ∷ xs) t found = omega (arith, within-found i xs t found)

  pub get_or-found : (i : ℕ) (xs : List (Begun X)) (t : X) (d : Begun X) → thing_at i xs ≡ Some t → get_or xs i d ≡ begun (start_at i xs) t
  get_or-found i [] t d found = absurd (none-some t found)
  get_or-found zero (x ∷ xs) t d found = ap (begun x.start) (same_Some _ _ found)
  get_or-found (suc i) (x ∷ xs) t d found = get_or-found i xs t d found

  -- the thing that stands there already changes nothing
  pub with_thing-same : (i : ℕ) (xs : List (Begun X)) (t : X) → thing_at i xs ≡ Some t → with_thing i xs t ≡ xs
  with_thing-same i [] t found = refl
  with_thing-same zero (x ∷ xs) t found = ap (λ v. begun x.start v ∷ xs) (sym (same_Some _ _ found))
  with_thing-same (suc i) (x ∷ xs) t found = ap (λ l. x ∷ l) (with_thing-same i xs t found)

  -- ---- what each has

  pub all-by : (P Q : Begun X → Type 0) → ((b : Begun X) → P b → Q b) → (xs : List (Begun X)) → AllByRecursion P xs → AllByRecursion Q xs
  all-by P Q f [] all = tt
  all-by P Q f (x ∷ xs) all = (f x all.0, all-by P Q f xs all.1)

  -- the one at a place
  pub all-at : (P : Begun X → Type 0) (xs : List (Begun X)) → AllByRecursion P xs → (i : ℕ) (t : X) → thing_at i xs ≡ Some t → P (begun (start_at i xs) t)
  all-at P [] all i t found = absurd (none-some t found)
  all-at P (x ∷ xs) all zero t found = subst (λ v. P (begun x.start v)) (same_Some _ _ found) all.0
  all-at P (x ∷ xs) all (suc i) t found = all-at P xs all.1 i t found

  pub all-insert : (P : Begun X → Type 0) (k : ℕ) (xs : List (Begun X)) (y : Begun X) → AllByRecursion P xs → P y → AllByRecursion P (insert xs k y)
  all-insert P zero xs y all p = (p, all)
  all-insert P (suc k) [] y all p = (p, tt)
  all-insert P (suc k) (x ∷ xs) y all p = (all.0, all-insert P k xs y all.1 p)

  pub all-without : (P : Begun X → Type 0) (i : ℕ) (xs : List (Begun X)) → AllByRecursion P xs → AllByRecursion P (without i xs)
  all-without P zero [] all = tt
  all-without P (suc i) [] all = tt
  all-without P zero (x ∷ xs) all = all.1
  all-without P (suc i) (x ∷ xs) all = (all.0, all-without P i xs all.1)

  pub all-with_thing : (P : Begun X → Type 0) (i : ℕ) (xs : List (Begun X)) (w : X) → AllByRecursion P xs → (i < length xs → P (begun (start_at i xs) w)) → AllByRecursion P (with_thing i xs w)
  all-with_thing P i [] w all p = tt
  all-with_thing P zero (x ∷ xs) w all p = (p (omega arith), all.1)
  all-with_thing P (suc i) (x ∷ xs) w all p = (all.0, all-with_thing P i xs w all.1 (λ lt. p (omega (arith, lt))))
