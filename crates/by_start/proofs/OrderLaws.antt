-- How many begin before a time, where the starts rise, and which these are.
use Rattle.std.proofs.Common.{◌≡◌, ◌⊎◌, ◌↔◌, inl, inr, ℕ, zero, suc, ◌-◌, ◌<◌, ◌≤◌, ltb, Bool, true, false, cond, Some, List, [], ◌∷◌, length, get_or, refl, sym, ap, subst, ◌∙◌, arith}
use Rattle.std.specs.List.{AllByRecursion}
use Rattle.std.specs.List.Sorted.{IsPartitionedBy, IsPartitionPoint}
use Rattle.std.proofs.lemmas.Bool.{cases_lt, ltb-true, ltb-false, lt-ltb, le-ltb}
use Rattle.std.proofs.lemmas.List.Sums.{sum_by-cons, count_by-le-length}
use Rattle.by_start.specs.declared.Begun.{Begun}
use Rattle.by_start.proofs.ListLaws.{all-by}
use Rattle.by_start.specs.Order.{StartsRise, start_at, thing_at, begun_before, range_of}

module _ {X : Type 0} where
  -- ---- the one at a place

  pub start_at-get_or : (xs : List (Begun X)) (i : ℕ) (d : Begun X) → i < length xs → start_at i xs ≡ (get_or xs i d).start
  start_at-get_or [] i d within = absurd (omega (arith, within))
  start_at-get_or (x ∷ xs) zero d within = refl
  start_at-get_or (x ∷ xs) (suc i) d within = start_at-get_or xs i d (omega (arith, within))

  pub thing_at-get_or : (xs : List (Begun X)) (i : ℕ) (d : Begun X) → i < length xs → thing_at i xs ≡ Some (get_or xs i d).thing
  thing_at-get_or [] i d within = absurd (omega (arith, within))
  thing_at-get_or (x ∷ xs) zero d within = refl
  thing_at-get_or (x ∷ xs) (suc i) d within = thing_at-get_or xs i d (omega (arith, within))

  -- the same, from what a read gives
  pub start_at-read : (xs : List (Begun X)) (i : ℕ) (x : Begun X) → i < length xs → x ≡ get_or xs i x → start_at i xs ≡ x.start
  start_at-read xs i x within read = start_at-get_or xs i x within ∙ ap (λ (b : Begun X). b.start) (sym read)

  pub thing_at-read : (xs : List (Begun X)) (i : ℕ) (x : Begun X) → i < length xs → x ≡ get_or xs i x → thing_at i xs ≡ Some x.thing
  thing_at-read xs i x within read = thing_at-get_or xs i x within ∙ ap (λ (b : Begun X). Some b.thing) (sym read)

  -- what all starts are, that at a place is
  pub all-starts : (P : ℕ → Type 0) (xs : List (Begun X)) → AllByRecursion (λ (x : Begun X). P x.start) xs → (i : ℕ) → i < length xs → P (start_at i xs)
  all-starts P [] h i within = absurd (omega (arith, within))
  all-starts P (x ∷ xs) h zero within = h.0
  all-starts P (x ∷ xs) h (suc i) within = all-starts P xs h.1 i (omega (arith, within))

  -- starts rise from place to place
  pub rises-at : (xs : List (Begun X)) → StartsRise xs → (i j : ℕ) → i < j → j < length xs → start_at i xs < start_at j xs
  rises-at [] rise i j lt within = absurd (omega (arith, within))
  rises-at (x ∷ xs) rise i zero lt within = absurd (omega (arith, lt))
  rises-at (x ∷ xs) rise zero (suc j) lt within = all-starts (λ s. x.start < s) xs rise.0 j (omega (arith, within))
  rises-at (x ∷ xs) rise (suc i) (suc j) lt within = rises-at xs rise.1 i j (omega (arith, lt)) (omega (arith, within))

  -- ---- counting

  pub begun-first : (t : ℕ) (x : Begun X) (xs : List (Begun X)) → x.start < t → begun_before t (x ∷ xs) ≡ suc (begun_before t xs)
  begun-first t x xs h =
      let one : cond {A = ℕ} (ltb x.start t) 1 0 ≡ 1 = ap (λ b. cond {A = ℕ} b 1 0) (lt-ltb x.start t h) in
      omega (arith, one, sum_by-cons (λ (b : Begun X). cond {A = ℕ} (ltb b.start t) 1 0) x xs)

  pub begun-later : (t : ℕ) (x : Begun X) (xs : List (Begun X)) → t ≤ x.start → begun_before t (x ∷ xs) ≡ begun_before t xs
  begun-later t x xs h =
      let none : cond {A = ℕ} (ltb x.start t) 1 0 ≡ 0 = ap (λ b. cond {A = ℕ} b 1 0) (le-ltb x.start t h) in
      omega (arith, none, sum_by-cons (λ (b : Begun X). cond {A = ℕ} (ltb b.start t) 1 0) x xs)

  pub begun-none : (t : ℕ) (xs : List (Begun X)) → AllByRecursion (λ (b : Begun X). t ≤ b.start) xs → begun_before t xs ≡ 0
  begun-none t [] h = refl
  begun-none t (x ∷ xs) h = begun-later t x xs h.0 ∙ begun-none t xs h.1

  -- those behind one that does not begin before the time
  pub rest-later : (t : ℕ) (x : Begun X) (xs : List (Begun X)) → t ≤ x.start → AllByRecursion (λ (b : Begun X). x.start < b.start) xs → AllByRecursion (λ (b : Begun X). t ≤ b.start) xs
  rest-later t x xs h rise = all-by (λ (b : Begun X). x.start < b.start) (λ (b : Begun X). t ≤ b.start) (λ b lt. omega (arith, h, lt)) xs rise

  pub begun_before-le : (t : ℕ) (xs : List (Begun X)) → begun_before t xs ≤ length xs
  begun_before-le t xs = count_by-le-length (λ (b : Begun X). ltb b.start t) xs

  -- one at a place below the count begins before
  pub begins-before : (t : ℕ) (xs : List (Begun X)) → StartsRise xs → (k : ℕ) → k < begun_before t xs → start_at k xs < t
  begins-before t [] rise k low = absurd (omega (arith, low))
  begins-before t (x ∷ xs) rise k low = by_cases (begins-before t xs rise.1) k (cases_lt x.start t) low
    where
      by_cases : ((j : ℕ) → j < begun_before t xs → start_at j xs < t) → (k : ℕ) → (x.start < t) ⊎ (t ≤ x.start) → k < begun_before t (x ∷ xs) → start_at k (x ∷ xs) < t
      by_cases rest k (inr later) low = absurd (omega (arith, low, begun-later t x xs later, begun-none t xs (rest-later t x xs later rise.0)))
      by_cases rest zero (inl before) low = before
      by_cases rest (suc k) (inl before) low = rest k (omega (arith, low, begun-first t x xs before))

  -- and one from it on does not
  pub begins-later : (t : ℕ) (xs : List (Begun X)) → StartsRise xs → (k : ℕ) → begun_before t xs ≤ k → k < length xs → t ≤ start_at k xs
  begins-later t [] rise k high within = absurd (omega (arith, within))
  begins-later t (x ∷ xs) rise k high within = by_cases (begins-later t xs rise.1) k (cases_lt x.start t) high within
    where
      by_cases : ((j : ℕ) → begun_before t xs ≤ j → j < length xs → t ≤ start_at j xs) → (k : ℕ) → (x.start < t) ⊎ (t ≤ x.start) → begun_before t (x ∷ xs) ≤ k → k < length (x ∷ xs) → t ≤ start_at k (x ∷ xs)
      by_cases rest zero (inl before) high within = absurd (omega (arith, high, begun-first t x xs before))
      by_cases rest (suc k) (inl before) high within = rest k (omega (arith, high, begun-first t x xs before)) (omega (arith, within))
      by_cases rest zero (inr later) high within = later
      by_cases rest (suc k) (inr later) high within = all-starts (λ s. t ≤ s) xs (rest-later t x xs later rise.0) k (omega (arith, within))

  -- The count is the place where those that do not begin before the time begin.
  pub count-is : (t i : ℕ) (xs : List (Begun X)) → StartsRise xs → i ≤ length xs → (0 < i → start_at (i - 1) xs < t) → (i < length xs → t ≤ start_at i xs) → i ≡ begun_before t xs
  count-is t i xs rise within before later = by_cases (cases_lt i (begun_before t xs)) (cases_lt (begun_before t xs) i)
    where
      by_cases : (i < begun_before t xs) ⊎ (begun_before t xs ≤ i) → (begun_before t xs < i) ⊎ (i ≤ begun_before t xs) → i ≡ begun_before t xs
      by_cases (inl low) q = let a = later (omega (arith, low, begun_before-le t xs)) in let b = begins-before t xs rise i low in absurd (omega (arith, a, b))
      by_cases (inr p) (inl high) =
          let a = before (omega (arith, high)) in
          let b = begins-later t xs rise (i - 1) (omega (arith, high)) (omega (arith, high, within)) in
          absurd (omega (arith, a, b))
      by_cases (inr p) (inr q) = omega (arith, p, q)

  -- ---- the place that a search finds

  pub partitioned : (t : ℕ) (xs : List (Begun X)) → StartsRise xs → IsPartitionedBy (λ (b : Begun X). ltb b.start t) xs
  partitioned t xs rise i j d le within before = by_cases (cases_lt i j)
    where
      by_cases : (i < j) ⊎ (j ≤ i) → ltb (get_or xs i d).start t ≡ true
      by_cases (inl lt) =
          let a = rises-at xs rise i j lt within in
          let b = ltb-true (get_or xs j d).start t before in
          lt-ltb (get_or xs i d).start t (omega (arith, a, b, start_at-get_or xs i d (omega (arith, lt, within)), start_at-get_or xs j d within))
      by_cases (inr ge) = let same : j ≡ i = omega (arith, le, ge) in subst (λ n. ltb (get_or xs n d).start t ≡ true) same before

  pub point-is : (t i : ℕ) (xs : List (Begun X)) → StartsRise xs → i ≤ length xs
      → IsPartitionPoint (λ (b : Begun X). ltb b.start t ≡ true) (λ (b : Begun X). ltb b.start t ≡ false) xs i → i ≡ begun_before t xs
  point-is t i [] rise within point = omega (arith, within)
  point-is t i (x ∷ xs) rise within point =
      count-is t i (x ∷ xs) rise within
      (λ some. let a = ltb-true (get_or (x ∷ xs) (i - 1) x).start t (point.0 (i - 1) x (omega arith) (omega (arith, some))) in omega (arith, a, start_at-get_or (x ∷ xs) (i - 1) x (omega (arith, some, within))))
      (λ more. let a = ltb-false (get_or (x ∷ xs) i x).start t (point.1 i x (omega arith) more) in omega (arith, a, start_at-get_or (x ∷ xs) i x more))

  -- ---- the range

  in-range : (from to : ℕ) (xs : List (Begun X)) → StartsRise xs → (i : ℕ) → i < length xs
      → ((begun_before from xs ≤ i) × (i < begun_before to xs)) ↔ ((from ≤ start_at i xs) × (start_at i xs < to))
  in-range from to xs rise i within = (
    λ h. (begins-later from xs rise i h.0 within, begins-before to xs rise i h.1),
    λ h. (first h.0 (cases_lt i (begun_before from xs)), past h.1 (cases_lt i (begun_before to xs))),
  )
    where
      first : from ≤ start_at i xs → (i < begun_before from xs) ⊎ (begun_before from xs ≤ i) → begun_before from xs ≤ i
      first from_here (inl low) = let lt = begins-before from xs rise i low in absurd (omega (arith, from_here, lt))
      first from_here (inr high) = high

      past : start_at i xs < to → (i < begun_before to xs) ⊎ (begun_before to xs ≤ i) → i < begun_before to xs
      past before (inl low) = low
      past before (inr high) = let ge = begins-later to xs rise i high within in absurd (omega (arith, before, ge))

  -- the places of a range are those of the things that begin in it
  pub range-places : (from to : ℕ) (r : ℕ × ℕ) (xs : List (Begun X)) → StartsRise xs → r ≡ range_of from to xs
      → (i : ℕ) → i < length xs → ((r.0 ≤ i) × (i < r.1)) ↔ ((from ≤ start_at i xs) × (start_at i xs < to))
  range-places from to r xs rise found i within =
      subst (λ (q : ℕ × ℕ). ((q.0 ≤ i) × (i < q.1)) ↔ ((from ≤ start_at i xs) × (start_at i xs < to))) (sym found)
      (by_cases (in-range from to xs rise i within) (ltb (begun_before from xs) (begun_before to xs)) refl)
    where
      by_cases : ((begun_before from xs ≤ i) × (i < begun_before to xs)) ↔ ((from ≤ start_at i xs) × (start_at i xs < to)) → (b : Bool) → ltb (begun_before from xs) (begun_before to xs) ≡ b
          → (((cond {A = ℕ × ℕ} b (begun_before from xs, begun_before to xs) (0, 0)).0 ≤ i) × (i < (cond {A = ℕ × ℕ} b (begun_before from xs, begun_before to xs) (0, 0)).1)) ↔ ((from ≤ start_at i xs) × (start_at i xs < to))
      by_cases here true q = here
      by_cases here false q = (
        λ h. absurd (omega (arith, h.1)),
        λ h. let p = here.1 h in let none = ltb-false (begun_before from xs) (begun_before to xs) q in absurd (omega (arith, none, p.0, p.1)),
      )
