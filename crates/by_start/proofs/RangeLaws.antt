-- What stands at the places of a range.
use Rattle.std.proofs.Common.{◌≡◌, ◌⊎◌, inl, inr, ℕ, suc, ◌-◌, ◌<◌, ◌≤◌, ltb, leb, Bool, true, false, cond, ◌&&◌, filter, List, [], ◌∷◌, take, drop, refl, sym, ap, ap₂, ◌∙◌, arith}
use Rattle.std.specs.List.{AllByRecursion}
use Rattle.std.proofs.lemmas.Bool.{cases_lt, ltb-false, lt-ltb, le-ltb, le-leb, lt-leb}
use Rattle.by_start.specs.declared.Begun.{Begun}
use Rattle.by_start.specs.Order.{StartsRise, begun_before, begins_within, range_of}
use Rattle.by_start.proofs.OrderLaws.{begun-first, begun-later, begun-none, rest-later}

module _ {X : Type 0} (from to : ℕ) where
  -- one that begins elsewhere is left out
  early-out : (x : Begun X) (xs : List (Begun X)) → x.start < from → filter (begins_within from to) (x ∷ xs) ≡ filter (begins_within from to) xs
  early-out x xs h = ap (λ b. cond (b && ltb x.start to) (x ∷ filter (begins_within from to) xs) (filter (begins_within from to) xs)) (lt-leb from x.start h)

  late-out : (x : Begun X) (xs : List (Begun X)) → to ≤ x.start → filter (begins_within from to) (x ∷ xs) ≡ filter (begins_within from to) xs
  late-out x xs h = by_cases (leb from x.start) (ltb x.start to) (le-ltb x.start to h)
    where
      by_cases : (a b : Bool) → b ≡ false → cond (a && b) (x ∷ filter (begins_within from to) xs) (filter (begins_within from to) xs) ≡ filter (begins_within from to) xs
      by_cases true b e = ap (λ b. cond b (x ∷ filter (begins_within from to) xs) (filter (begins_within from to) xs)) e
      by_cases false b e = refl

  inside-kept : (x : Begun X) (xs : List (Begun X)) → from ≤ x.start → x.start < to → filter (begins_within from to) (x ∷ xs) ≡ x ∷ filter (begins_within from to) xs
  inside-kept x xs h g = ap₂ (λ a b. cond (a && b) (x ∷ filter (begins_within from to) xs) (filter (begins_within from to) xs)) (le-leb from x.start h) (lt-ltb x.start to g)

  none-late : (xs : List (Begun X)) → AllByRecursion (λ (b : Begun X). to ≤ b.start) xs → filter (begins_within from to) xs ≡ []
  none-late [] late = refl
  none-late (x ∷ xs) late = late-out x xs late.0 ∙ none-late xs late.1

  counted-within : (xs : List (Begun X)) → StartsRise xs → take (begun_before to xs - begun_before from xs) (drop (begun_before from xs) xs) ≡ filter (begins_within from to) xs
  counted-within [] rise = refl
  counted-within (x ∷ xs) rise = by_cases (counted-within xs rise.1) (cases_lt x.start from) (cases_lt x.start to)
    where
      by_cases : take (begun_before to xs - begun_before from xs) (drop (begun_before from xs) xs) ≡ filter (begins_within from to) xs
          → (x.start < from) ⊎ (from ≤ x.start) → (x.start < to) ⊎ (to ≤ x.start)
          → take (begun_before to (x ∷ xs) - begun_before from (x ∷ xs)) (drop (begun_before from (x ∷ xs)) (x ∷ xs)) ≡ filter (begins_within from to) (x ∷ xs)
      by_cases rest (inl early) (inl before) =
          let same : begun_before to (x ∷ xs) - begun_before from (x ∷ xs) ≡ begun_before to xs - begun_before from xs = omega (arith, begun-first to x xs before, begun-first from x xs early) in
          ap₂ (λ k n. take k (drop n (x ∷ xs))) same (begun-first from x xs early) ∙ rest ∙ sym (early-out x xs early)
      by_cases rest p (inr late) =
          let nothing : begun_before to (x ∷ xs) - begun_before from (x ∷ xs) ≡ 0 = omega (arith, begun-later to x xs late, begun-none to xs (rest-later to x xs late rise.0)) in
          ap (λ k. take k (drop (begun_before from (x ∷ xs)) (x ∷ xs))) nothing ∙ sym (late-out x xs late ∙ none-late xs (rest-later to x xs late rise.0))
      by_cases rest (inr later) (inl before) =
          let none : begun_before from xs ≡ 0 = begun-none from xs (rest-later from x xs later rise.0) in
          let first : begun_before from (x ∷ xs) ≡ 0 = begun-later from x xs later ∙ none in
          let more : begun_before to (x ∷ xs) - begun_before from (x ∷ xs) ≡ suc (begun_before to xs - begun_before from xs) = omega (arith, begun-first to x xs before, first, none) in
          ap₂ (λ k n. take k (drop n (x ∷ xs))) more first
          ∙ ap (λ l. x ∷ l) (ap (λ n. take (begun_before to xs - begun_before from xs) (drop n xs)) (sym none) ∙ rest) ∙ sym (inside-kept x xs later before)

  -- the places of a range hold those that begin in it
  pub range-holds : (r : ℕ × ℕ) (xs : List (Begun X)) → StartsRise xs → r ≡ range_of from to xs → take (r.1 - r.0) (drop r.0 xs) ≡ filter (begins_within from to) xs
  range-holds r xs rise found = ap (λ (q : ℕ × ℕ). take (q.1 - q.0) (drop q.0 xs)) found ∙ by_cases (ltb (begun_before from xs) (begun_before to xs)) refl
    where
      by_cases : (b : Bool) → ltb (begun_before from xs) (begun_before to xs) ≡ b
          → take ((cond {A = ℕ × ℕ} b (begun_before from xs, begun_before to xs) (0, 0)).1 - (cond {A = ℕ × ℕ} b (begun_before from xs, begun_before to xs) (0, 0)).0) (drop (cond {A = ℕ × ℕ} b (begun_before from xs, begun_before to xs) (0, 0)).0 xs) ≡ filter (begins_within from to) xs
      by_cases true q = counted-within xs rise
      by_cases false q =
          let ge = ltb-false (begun_before from xs) (begun_before to xs) q in
          let nothing : 0 ≡ begun_before to xs - begun_before from xs = omega (arith, ge) in
          ap (λ k. take k (drop (begun_before from xs) xs)) nothing ∙ counted-within xs rise
