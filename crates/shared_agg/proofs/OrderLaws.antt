-- How many slices begin before a time, where the starts rise.
use Rattle.std.proofs.Common.{◌≡◌, ◌⊎◌, inl, inr, ℕ, zero, suc, ◌-◌, ◌<◌, ◌≤◌, ltb, true, false, cond, List, [], ◌∷◌, length, get_or, refl, ap, subst, ◌∙◌, arith}
use Rattle.std.specs.List.{AllByRecursion}
use Rattle.std.specs.List.Sorted.{IsPartitionedBy, IsPartitionPoint}
use Rattle.std.proofs.lemmas.Bool.{cases_lt, ltb-true, ltb-false, lt-ltb, le-ltb}
use Rattle.std.proofs.lemmas.List.Sums.{sum_by-cons, count_by-le-length}
use Rattle.shared_agg.specs.declared.slices.Slice.{Slice}
use Rattle.shared_agg.specs.Slices.{StartsRise, begun_before}

pub all-at : (P : Slice → Type 0) (xs : List Slice) → AllByRecursion P xs → (k : ℕ) (d : Slice) → k < length xs → P (get_or xs k d)
all-at P [] h k d within = absurd (omega (arith, within))
all-at P (x ∷ xs) h zero d within = h.0
all-at P (x ∷ xs) h (suc k) d within = all-at P xs h.1 k d (omega (arith, within))

pub all-by : (P Q : Slice → Type 0) → ((x : Slice) → P x → Q x) → (xs : List Slice) → AllByRecursion P xs → AllByRecursion Q xs
all-by P Q f [] h = tt
all-by P Q f (x ∷ xs) h = (f x h.0, all-by P Q f xs h.1)

-- ---- counting

pub begun-first : (t : ℕ) (x : Slice) (xs : List Slice) → x.start < t → begun_before t (x ∷ xs) ≡ suc (begun_before t xs)
begun-first t x xs h =
    let one : cond {A = ℕ} (ltb x.start t) 1 0 ≡ 1 = ap (λ b. cond {A = ℕ} b 1 0) (lt-ltb x.start t h) in
    omega (arith, one, sum_by-cons (λ (s : Slice). cond {A = ℕ} (ltb s.start t) 1 0) x xs)

pub begun-later : (t : ℕ) (x : Slice) (xs : List Slice) → t ≤ x.start → begun_before t (x ∷ xs) ≡ begun_before t xs
begun-later t x xs h =
    let none : cond {A = ℕ} (ltb x.start t) 1 0 ≡ 0 = ap (λ b. cond {A = ℕ} b 1 0) (le-ltb x.start t h) in
    omega (arith, none, sum_by-cons (λ (s : Slice). cond {A = ℕ} (ltb s.start t) 1 0) x xs)

pub begun-none : (t : ℕ) (xs : List Slice) → AllByRecursion (λ (s : Slice). t ≤ s.start) xs → begun_before t xs ≡ 0
begun-none t [] h = refl
begun-none t (x ∷ xs) h = begun-later t x xs h.0 ∙ begun-none t xs h.1

-- the slices behind one that does not begin before the time
rest-later : (t : ℕ) (x : Slice) (xs : List Slice) → t ≤ x.start → AllByRecursion (λ (s : Slice). x.start < s.start) xs → AllByRecursion (λ (s : Slice). t ≤ s.start) xs
rest-later t x xs h rise = all-by (λ (s : Slice). x.start < s.start) (λ (s : Slice). t ≤ s.start) (λ s lt. omega (arith, h, lt)) xs rise

-- a place below the count is that of a slice that begins before
pub begins-before : (t : ℕ) (xs : List Slice) → StartsRise xs → (k : ℕ) (d : Slice) → k < begun_before t xs → (get_or xs k d).start < t
begins-before t [] rise k d low = absurd (omega (arith, low))
begins-before t (x ∷ xs) rise k d low = by_cases (λ j. begins-before t xs rise.1 j d) k (cases_lt x.start t) low
  where
    by_cases : ((j : ℕ) → j < begun_before t xs → (get_or xs j d).start < t) → (k : ℕ) → (x.start < t) ⊎ (t ≤ x.start) → k < begun_before t (x ∷ xs) → (get_or (x ∷ xs) k d).start < t
    by_cases rest k (inr later) low = absurd (omega (arith, low, begun-later t x xs later, begun-none t xs (rest-later t x xs later rise.0)))
    by_cases rest zero (inl before) low = before
    by_cases rest (suc k) (inl before) low = rest k (omega (arith, low, begun-first t x xs before))

-- and one from it on is that of a slice that does not
pub begins-later : (t : ℕ) (xs : List Slice) → StartsRise xs → (k : ℕ) (d : Slice) → begun_before t xs ≤ k → k < length xs → t ≤ (get_or xs k d).start
begins-later t [] rise k d high within = absurd (omega (arith, within))
begins-later t (x ∷ xs) rise k d high within = by_cases (λ j. begins-later t xs rise.1 j d) k (cases_lt x.start t) high within
  where
    by_cases : ((j : ℕ) → begun_before t xs ≤ j → j < length xs → t ≤ (get_or xs j d).start) → (k : ℕ) → (x.start < t) ⊎ (t ≤ x.start) → begun_before t (x ∷ xs) ≤ k → k < length (x ∷ xs) → t ≤ (get_or (x ∷ xs) k d).start
    by_cases rest zero (inl before) high within = absurd (omega (arith, high, begun-first t x xs before))
    by_cases rest (suc k) (inl before) high within = rest k (omega (arith, high, begun-first t x xs before)) (omega (arith, within))
    by_cases rest zero (inr later) high within = later
    by_cases rest (suc k) (inr later) high within = all-at (λ (s : Slice). t ≤ s.start) xs (rest-later t x xs later rise.0) k d (omega (arith, within))

-- The count is the place where the slices that do not begin before the time begin.
pub count-is : (t i : ℕ) (xs : List Slice) (d : Slice) → StartsRise xs → i ≤ length xs → (0 < i → (get_or xs (i - 1) d).start < t) → (i < length xs → t ≤ (get_or xs i d).start) → i ≡ begun_before t xs
count-is t i xs d rise within before later = by_cases (cases_lt i (begun_before t xs)) (cases_lt (begun_before t xs) i)
  where
    most : begun_before t xs ≤ length xs
    most = count_by-le-length (λ (s : Slice). ltb s.start t) xs

    by_cases : (i < begun_before t xs) ⊎ (begun_before t xs ≤ i) → (begun_before t xs < i) ⊎ (i ≤ begun_before t xs) → i ≡ begun_before t xs
    by_cases (inl low) q = let a = later (omega (arith, low, most)) in let b = begins-before t xs rise i d low in absurd (omega (arith, a, b))
    by_cases (inr p) (inl high) =
        let a = before (omega (arith, high)) in
        let b = begins-later t xs rise (i - 1) d (omega (arith, high)) (omega (arith, high, within)) in
        absurd (omega (arith, a, b))
    by_cases (inr p) (inr q) = omega (arith, p, q)

-- starts rise from place to place
pub rises-at : (xs : List Slice) → StartsRise xs → (i j : ℕ) (d : Slice) → i < j → j < length xs → (get_or xs i d).start < (get_or xs j d).start
rises-at [] rise i j d lt within = absurd (omega (arith, within))
rises-at (x ∷ xs) rise i zero d lt within = absurd (omega (arith, lt))
rises-at (x ∷ xs) rise zero (suc j) d lt within = all-at (λ (s : Slice). x.start < s.start) xs rise.0 j d (omega (arith, within))
rises-at (x ∷ xs) rise (suc i) (suc j) d lt within = rises-at xs rise.1 i j d (omega (arith, lt)) (omega (arith, within))

-- ---- the place that a search finds

pub partitioned : (t : ℕ) (xs : List Slice) → StartsRise xs → IsPartitionedBy (λ (s : Slice). ltb s.start t) xs
partitioned t xs rise i j d le within before = by_cases (cases_lt i j)
  where
    by_cases : (i < j) ⊎ (j ≤ i) → ltb (get_or xs i d).start t ≡ true
    by_cases (inl lt) = let a = rises-at xs rise i j d lt within in let b = ltb-true (get_or xs j d).start t before in lt-ltb (get_or xs i d).start t (omega (arith, a, b))
    by_cases (inr ge) = let same : j ≡ i = omega (arith, le, ge) in subst (λ n. ltb (get_or xs n d).start t ≡ true) same before

pub point-is : (t i : ℕ) (xs : List Slice) → StartsRise xs → i ≤ length xs → IsPartitionPoint (λ (s : Slice). ltb s.start t ≡ true) (λ (s : Slice). ltb s.start t ≡ false) xs i → i ≡ begun_before t xs
point-is t i [] rise within point = omega (arith, within)
point-is t i (x ∷ xs) rise within point =
    count-is t i (x ∷ xs) x rise within
    (λ some. ltb-true (get_or (x ∷ xs) (i - 1) x).start t (point.0 (i - 1) x (omega arith) (omega (arith, some))))
    (λ more. ltb-false (get_or (x ∷ xs) i x).start t (point.1 i x (omega arith) more))

pub count-empty : (t i : ℕ) (xs : List Slice) → i ≡ length xs → i ≡ 0 → i ≡ begun_before t xs
count-empty t i [] same none = none
count-empty t i (x ∷ xs) same none = absurd (omega (arith, same, none))
