-- Records beside their sets.
use Rattle.std.proofs.Common.{◌≡◌, ℕ, ◌+◌, ◌<◌, Bool, true, false, ◌||◌, Result, Ok, Err, List, [], ◌∷◌, ◌++◌, length, get_or, take, refl, sym, ap, ap₂, ◌∙◌, arith}
use Rattle.std.specs.List.{list_any}
use Rattle.std.specs.Result.{OnOk}
use Rattle.std.proofs.lemmas.List.Folds.{list_any_more, list_any_at}
use Rattle.std.proofs.lemmas.Simd.{length-zip2, get_or-zip2}
use Rattle.as_base.specs.declared.item.Record.{Record}
use Rattle.slice_store.specs.Placed.{Placed, placed, placed_of, records_of, sets_of}

pub records-placed : (rs : List Record) (ss : List (List Bool)) → length rs ≡ length ss → records_of (placed_of rs ss) ≡ rs
records-placed [] ss h = refl
records-placed (r ∷ rs) [] h = absurd (omega (arith, h))
records-placed (r ∷ rs) (s ∷ ss) h = ap (λ l. r ∷ l) (records-placed rs ss (omega (arith, h)))

pub sets-placed : (rs : List Record) (ss : List (List Bool)) → length rs ≡ length ss → sets_of (placed_of rs ss) ≡ ss
sets-placed [] [] h = refl
sets-placed [] (s ∷ ss) h = absurd (omega (arith, h))
sets-placed (r ∷ rs) [] h = absurd (omega (arith, h))
sets-placed (r ∷ rs) (s ∷ ss) h = ap (λ l. s ∷ l) (sets-placed rs ss (omega (arith, h)))

pub placed-push : (rs : List Record) (ss : List (List Bool)) (r : Record) (s : List Bool) → length rs ≡ length ss → placed_of (rs ++ r ∷ []) (ss ++ s ∷ []) ≡ placed_of rs ss ++ placed r s ∷ []
placed-push [] [] r s h = refl
placed-push [] (t ∷ ss) r s h = absurd (omega (arith, h))
placed-push (q ∷ rs) [] r s h = absurd (omega (arith, h))
placed-push (q ∷ rs) (t ∷ ss) r s h = ap (λ l. placed q t ∷ l) (placed-push rs ss r s (omega (arith, h)))

module _ (f : Placed → Bool) (rs : List Record) (ss : List (List Bool)) (k : ℕ) (r : Record) (s : List Bool) (same : length rs ≡ length ss) (within : k < length rs) (beside : s ≡ get_or ss k s) where
  -- the one at a place
  at-place : get_or (placed_of rs ss) k (placed r s) ≡ placed (get_or rs k r) s
  at-place = get_or-zip2 placed rs ss k r s (placed r s) within (omega (arith, same, within)) ∙ ap (placed (get_or rs k r)) (sym beside)

  long : k < length (placed_of rs ss)
  long = omega (arith, within, length-zip2 placed rs ss same)

  -- one passes the test
  pub any-here : f (placed (get_or rs k r) s) ≡ true → list_any f (placed_of rs ss) ≡ true
  any-here h = list_any_at f (placed_of rs ss) k (placed r s) long (ap f at-place ∙ h)

  -- one more does not pass it
  pub none-more : list_any f (take k (placed_of rs ss)) ≡ false → f (placed (get_or rs k r) s) ≡ false → list_any f (take (k + 1) (placed_of rs ss)) ≡ false
  none-more before h = list_any_more f (placed_of rs ss) k (placed r s) long ∙ ap₂ (λ a b. a || b) before (ap f at-place ∙ h)

-- a placing, from what the code has
pub push-found : {E : Type 0} (r : Result (Unit {0}) E) (rs qs : List Record) (ss ts : List (List Bool)) (x : Record) (s : List Bool) (was : List Placed)
    → length rs ≡ length ss → placed_of rs ss ≡ was → OnOk r (qs ≡ rs ++ x ∷ []) → OnOk r (ts ≡ ss ++ s ∷ []) → OnOk r (placed_of qs ts ≡ was ++ placed x s ∷ [])
push-found (Ok u) rs qs ss ts x s was same view e f = ap₂ placed_of e f ∙ placed-push rs ss x s same ∙ ap (λ l. l ++ placed x s ∷ []) view
push-found (Err n) rs qs ss ts x s was same view e f = tt
