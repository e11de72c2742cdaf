-- Look-ups: in the list as it is, and after each change.
use Rattle.std.proofs.Common.{◌≡◌, ◌⊎◌, inl, inr, ℕ, zero, suc, ◌<◌, ◌≤◌, eqb, Bool, true, false, cond, Option, Some, None, List, [], ◌∷◌, length, get_or, set, refl, sym, ap, subst, ◌∙◌, arith}
use Rattle.std.specs.List.{AllByRecursion, insert}
use Rattle.std.proofs.lemmas.Option.{none-some}
use Rattle.std.proofs.lemmas.Bool.{cases_lt, eqb-true, eqb-false, eq-eqb, ne_eqb}
use Rattle.by_start.specs.declared.Begun.{Begun}
use Rattle.by_start.specs.Order.{begun, look, StartsRise, start_at, thing_at, begun_before, with_begun, without, with_thing}
use Rattle.by_start.proofs.ListLaws.{all-by, all-at, all-insert, all-without, all-with_thing}
use Rattle.by_start.proofs.OrderLaws.{all-starts, begins-before, begins-later}

apart-below : (a b : ℕ) → a < b → eqb a b ≡ false
apart-below a b h = ne_eqb a b (λ e. absurd (omega (arith, h, e)))

apart-above : (a b : ℕ) → b < a → eqb a b ≡ false
apart-above a b h = ne_eqb a b (λ e. absurd (omega (arith, h, e)))

module _ {X : Type 0} where
  -- all begin later than a time before the first
  pub all-later : (c : ℕ) (x : Begun X) (xs : List (Begun X)) → c < x.start → AllByRecursion (λ (b : Begun X). x.start < b.start) xs → AllByRecursion (λ (b : Begun X). c < b.start) (x ∷ xs)
  all-later c x xs h rise = (h, all-by (λ (b : Begun X). x.start < b.start) (λ (b : Begun X). c < b.start) (λ b lt. omega (arith, h, lt)) xs rise)

  -- none begins where all begin later
  pub look-absent : (c : ℕ) (xs : List (Begun X)) → AllByRecursion (λ (b : Begun X). c < b.start) xs → look c xs ≡ None
  look-absent c [] h = refl
  look-absent c (x ∷ xs) h = ap (λ b. cond b (Some x.thing) (look c xs)) (apart-below c x.start h.0) ∙ look-absent c xs h.1

  -- the start of the one at a place looks up its thing
  pub look-at : (xs : List (Begun X)) → StartsRise xs → (i : ℕ) → i < length xs → look (start_at i xs) xs ≡ thing_at i xs
  look-at [] rise i within = refl
  look-at (x ∷ xs) rise zero within = ap (λ b. cond b (Some x.thing) (look x.start xs)) (eq-eqb x.start x.start refl)
  look-at (x ∷ xs) rise (suc i) within =
      ap (λ b. cond b (Some x.thing) (look (start_at i xs) xs)) (apart-above (start_at i xs) x.start (all-starts (λ s. x.start < s) xs rise.0 i (omega (arith, within))))
      ∙ look-at xs rise.1 i (omega (arith, within))

  -- a thing stands at each place of the list
  thing-there : (xs : List (Begun X)) (i : ℕ) → i < length xs → thing_at i xs ≡ None → ⊥
  thing-there [] i within none = omega (arith, within)
  thing-there (x ∷ xs) zero within none = none-some x.thing (sym none)
  thing-there (x ∷ xs) (suc i) within none = thing-there xs i (omega (arith, within)) none

  -- none begins where those before a place begin before, and those from it on later
  pub look-gap : (start k : ℕ) (xs : List (Begun X)) → StartsRise xs → ((j : ℕ) → j < k → start_at j xs < start) → (k < length xs → start < start_at k xs) → look start xs ≡ None
  look-gap start k [] rise low high = refl
  look-gap start zero (x ∷ xs) rise low high = look-absent start (x ∷ xs) (all-later start x xs (high (omega arith)) rise.0)
  look-gap start (suc k) (x ∷ xs) rise low high =
      ap (λ b. cond b (Some x.thing) (look start xs)) (apart-above start x.start (low 0 (omega arith)))
      ∙ look-gap start k xs rise.1 (λ j lt. low (suc j) (omega (arith, lt))) (λ lt. high (omega (arith, lt)))

  -- where none begins, the first does not
  look-rest : (start : ℕ) (x : Begun X) (xs : List (Begun X)) → look start (x ∷ xs) ≡ None → (eqb start x.start ≡ false) × (look start xs ≡ None)
  look-rest start x xs none = by_cases (eqb start x.start) refl none
    where
      by_cases : (b : Bool) → eqb start x.start ≡ b → cond b (Some x.thing) (look start xs) ≡ None → (eqb start x.start ≡ false) × (look start xs ≡ None)
      by_cases true e none = absurd (none-some x.thing (sym none))
      by_cases false e none = (e, none)

  -- ---- a thing more

  pub rise-insert : (start k : ℕ) (thing : X) (xs : List (Begun X)) → StartsRise xs → ((j : ℕ) → j < k → start_at j xs < start) → (k < length xs → start < start_at k xs)
      → StartsRise (insert xs k (begun start thing))
  rise-insert start zero thing [] rise low high = (tt, tt)
  rise-insert start (suc k) thing [] rise low high = (tt, tt)
  rise-insert start zero thing (x ∷ xs) rise low high = (all-later start x xs (high (omega arith)) rise.0, rise)
  rise-insert start (suc k) thing (x ∷ xs) rise low high = (
    all-insert (λ (b : Begun X). x.start < b.start) k xs (begun start thing) rise.0 (low 0 (omega arith)),
    rise-insert start k thing xs rise.1 (λ j lt. low (suc j) (omega (arith, lt))) (λ lt. high (omega (arith, lt))),
  )

  pub look-insert : (start k : ℕ) (thing : X) (xs : List (Begun X)) → look start xs ≡ None → (c : ℕ) → look c (insert xs k (begun start thing)) ≡ cond (eqb c start) (Some thing) (look c xs)
  look-insert start zero thing [] none c = refl
  look-insert start (suc k) thing [] none c = refl
  look-insert start zero thing (x ∷ xs) none c = refl
  look-insert start (suc k) thing (x ∷ xs) none c =
      ap (cond (eqb c x.start) (Some x.thing)) (look-insert start k thing xs rest.1 c) ∙ by_cases (eqb c x.start) refl
    where
      rest : (eqb start x.start ≡ false) × (look start xs ≡ None)
      rest = look-rest start x xs none

      by_cases : (b : Bool) → eqb c x.start ≡ b → cond b (Some x.thing) (cond (eqb c start) (Some thing) (look c xs)) ≡ cond (eqb c start) (Some thing) (cond b (Some x.thing) (look c xs))
      by_cases true e = sym (ap (λ b. cond b (Some thing) (Some x.thing)) (ne_eqb c start (λ same. eqb-false start x.start rest.0 (sym same ∙ eqb-true c x.start e))))
      by_cases false e = refl

  -- the first place that begins no earlier begins later, where none begins at the time
  pub begins-past : (start : ℕ) (xs : List (Begun X)) → StartsRise xs → look start xs ≡ None → begun_before start xs < length xs → start < start_at (begun_before start xs) xs
  begins-past start xs rise none within = by_cases (cases_lt start (start_at k xs))
    where
      k : ℕ
      k = begun_before start xs

      at_least : start ≤ start_at k xs
      at_least = begins-later start xs rise k (omega arith) within

      by_cases : (start < start_at k xs) ⊎ (start_at k xs ≤ start) → start < start_at k xs
      by_cases (inl less) = less
      by_cases (inr ge) = let same : start_at k xs ≡ start = omega (arith, at_least, ge) in
          absurd (thing-there xs k within (sym (look-at xs rise k within) ∙ ap (λ s. look s xs) same ∙ none))

  pub rise-begun : (start : ℕ) (thing : X) (xs : List (Begun X)) → StartsRise xs → look start xs ≡ None → StartsRise (with_begun start thing xs)
  rise-begun start thing xs rise none = rise-insert start (begun_before start xs) thing xs rise (begins-before start xs rise) (begins-past start xs rise none)

  -- a choice at one place behind the first says nothing of the first
  passed : (o : Option X) (x : Begun X) (xs : List (Begun X)) (i c : ℕ) → StartsRise (x ∷ xs) → i < length xs
      → cond (eqb c x.start) (Some x.thing) (cond (eqb c (start_at i xs)) o (look c xs)) ≡ cond (eqb c (start_at i xs)) o (cond (eqb c x.start) (Some x.thing) (look c xs))
  passed o x xs i c rise within = by_cases (eqb c x.start) refl
    where
      later : x.start < start_at i xs
      later = all-starts (λ s. x.start < s) xs rise.0 i within

      by_cases : (b : Bool) → eqb c x.start ≡ b → cond b (Some x.thing) (cond (eqb c (start_at i xs)) o (look c xs)) ≡ cond (eqb c (start_at i xs)) o (cond b (Some x.thing) (look c xs))
      by_cases true e = let same = eqb-true c x.start e in sym (ap (λ b. cond b o (Some x.thing)) (apart-below c (start_at i xs) (omega (arith, later, same))))
      by_cases false e = refl

  -- ---- a thing less

  pub rise-without : (i : ℕ) (xs : List (Begun X)) → StartsRise xs → StartsRise (without i xs)
  rise-without zero [] rise = tt
  rise-without (suc i) [] rise = tt
  rise-without zero (x ∷ xs) rise = rise.1
  rise-without (suc i) (x ∷ xs) rise = (all-without (λ (b : Begun X). x.start < b.start) i xs rise.0, rise-without i xs rise.1)

  pub look-without : (i : ℕ) (xs : List (Begun X)) → StartsRise xs → i < length xs → (c : ℕ) → look c (without i xs) ≡ cond (eqb c (start_at i xs)) None (look c xs)
  look-without i [] rise within c = absurd (omega (arith, within))
  look-without zero (x ∷ xs) rise within c = by_cases (eqb c x.start) refl
    where
      by_cases : (b : Bool) → eqb c x.start ≡ b → look c xs ≡ cond b None (cond b (Some x.thing) (look c xs))
      by_cases true e = look-absent c xs (subst (λ n. AllByRecursion (λ (b : Begun X). n < b.start) xs) (sym (eqb-true c x.start e)) rise.0)
      by_cases false e = refl
  look-without (suc i) (x ∷ xs) rise within c =
      ap (cond (eqb c x.start) (Some x.thing)) (look-without i xs rise.1 (omega (arith, within)) c) ∙ passed None x xs i c rise (omega (arith, within))

  -- ---- another thing at a place

  pub set-with_thing : (xs : List (Begun X)) (i : ℕ) (x : Begun X) (w : X) → i < length xs → x ≡ get_or xs i x → set xs i (begun x.start w) ≡ with_thing i xs w
  set-with_thing [] i x w within read = absurd (omega (arith, within))
  set-with_thing (y ∷ xs) zero x w within read = ap (λ (b : Begun X). begun b.start w ∷ xs) read
  set-with_thing (y ∷ xs) (suc i) x w within read = ap (λ l. y ∷ l) (set-with_thing xs i x w (omega (arith, within)) read)

  pub rise-with_thing : (i : ℕ) (xs : List (Begun X)) (w : X) → StartsRise xs → StartsRise (with_thing i xs w)
  rise-with_thing i [] w rise = tt
  rise-with_thing zero (x ∷ xs) w rise = (rise.0, rise.1)
  rise-with_thing (suc i) (x ∷ xs) w rise = (
    all-with_thing (λ (b : Begun X). x.start < b.start) i xs w rise.0 (all-starts (λ s. x.start < s) xs rise.0 i),
    rise-with_thing i xs w rise.1,
  )

  pub look-with_thing : (i : ℕ) (xs : List (Begun X)) (w : X) → StartsRise xs → i < length xs → (c : ℕ) → look c (with_thing i xs w) ≡ cond (eqb c (start_at i xs)) (Some w) (look c xs)
  look-with_thing i [] w rise within c = absurd (omega (arith, within))
  look-with_thing zero (x ∷ xs) w rise within c = same (eqb c x.start)
    where
      same : (b : Bool) → cond b (Some w) (look c xs) ≡ cond b (Some w) (cond b (Some x.thing) (look c xs))
      same true = refl
      same false = refl
  look-with_thing (suc i) (x ∷ xs) w rise within c =
      ap (cond (eqb c x.start) (Some x.thing)) (look-with_thing i xs w rise.1 (omega (arith, within)) c) ∙ passed (Some w) x xs i c rise (omega (arith, within))

  -- ---- where a look-up finds

  -- a thing that is found stands at some place
  pub record StandsAt (c : ℕ) (xs : List (Begun X)) (t : X) : Type 0 where
    pub place : ℕ
    pub within : place < length xs
    pub begins : start_at place xs ≡ c
    pub found : thing_at place xs ≡ Some t

  pub look-stands : (c : ℕ) (xs : List (Begun X)) (t : X) → look c xs ≡ Some t → StandsAt c xs t
  look-stands c [] t found = absurd (none-some t found)
  look-stands c (x ∷ xs) t found = by_cases (look-stands c xs t) (eqb c x.start) refl found
    where
      by_cases : (look c xs ≡ Some t → StandsAt c xs t) → (b : Bool) → eqb c x.start ≡ b → cond b (Some x.thing) (look c xs) ≡ Some t → StandsAt c (x ∷ xs) t
      by_cases rest true e found = record { place = 0; within = omega arith; begins = sym (eqb-true c x.start e); found = found }
      by_cases rest false e found = let p = rest found in record { place = suc p.place; within = let w = p.within in omega (arith, w); begins = p.begins; found = p.found }

  -- what all have, one that a look-up finds has
  pub all-look : (P : Begun X → Type 0) (xs : List (Begun X)) → AllByRecursion P xs → (c : ℕ) (t : X) → look c xs ≡ Some t → P (begun c t)
  all-look P xs all c t found =
      let p = look-stands c xs t found in
      subst (λ s. P (begun s t)) p.begins (all-at P xs all p.place t p.found)
