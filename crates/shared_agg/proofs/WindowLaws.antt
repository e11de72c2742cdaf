-- What the slices of a range add up to, and how many cells there are.
use Rattle.std.proofs.Common.{◌≡◌, ◌⊎◌, inl, inr, ℕ, zero, suc, ℤ, ◌+◌, ◌-◌, ◌<◌, ◌≤◌, ◌^◌, ◌&&◌, ltb, leb, min, Bool, true, false, cond, List, [], ◌∷◌, ◌++◌, length, get_or, take, drop, refl, sym, ap, ap₂, subst, ◌∙◌, arith}
use Rattle.std.specs.List.{AllByRecursion, fold, flat_map, filter}
use Rattle.std.proofs.lemmas.Bool.{cases_lt, lt-ltb, le-ltb, le-leb, lt-leb, eq-eqb}
use Rattle.std.proofs.lemmas.Int.{clamps}
use Rattle.std.proofs.lemmas.List.Sums.{fold-append}
use Rattle.std.proofs.lemmas.Grind.{flat_map-append}
use Rattle.as_base.specs.declared.fragment.Cell.{Cell}
use Rattle.group_table.specs.Cells.{add_in, sums, count_at, IsSound}
use Rattle.group_table.specs.Steps.{AreAppended}
use Rattle.group_table.specs.Tables.{cells_at}
use Rattle.group_table.specs.Totals.{total}
use Rattle.group_table.proofs.CellLaws.{merge}
use Rattle.group_table.proofs.SumLaws.{count-sums}
use Rattle.shared_agg.specs.declared.slices.Slice.{Slice}
use Rattle.shared_agg.specs.Slices.{starts, cells_from, count_in, total_in, begun_before, is_between, cells_within, StartsRise}
use Rattle.shared_agg.proofs.OrderLaws.{all-by, begun-first, begun-later, begun-none}
use Rattle.shared_agg.proofs.SliceLaws.{apart-above}
use Rattle.shared_agg.proofs.FillLaws.{count-append}

abbrev cells : ℕ → Slice → List Cell
cells slot s = cells_at s.table slot

right : (l : List Cell) → l ++ [] ≡ l
right [] = refl
right (c ∷ l) = ap (λ k. c ∷ k) (right l)

-- ---- one slice after another

take-part : (xs : List Slice) (n : ℕ) (d : Slice) → n < length xs → take (suc n) xs ≡ take n xs ++ get_or xs n d ∷ []
take-part [] n d lt = absurd (omega (arith, lt))
take-part (x ∷ xs) zero d lt = refl
take-part (x ∷ xs) (suc n) d lt = ap (λ l. x ∷ l) (take-part xs n d (omega (arith, lt)))

part-more : (xs : List Slice) (f n : ℕ) (d : Slice) → f + n < length xs → take (suc n) (drop f xs) ≡ take n (drop f xs) ++ get_or xs (f + n) d ∷ []
part-more [] f n d lt = absurd (omega (arith, lt))
part-more (x ∷ xs) zero n d lt =
    let e : n ≡ 0 + n = omega arith in
    take-part (x ∷ xs) n d (omega (arith, lt)) ∙ ap (λ k. take n (x ∷ xs) ++ get_or (x ∷ xs) k d ∷ []) e
part-more (x ∷ xs) (suc f) n d lt =
    let e : suc (f + n) ≡ suc f + n = omega arith in
    part-more xs f n d (omega (arith, lt)) ∙ ap (λ k. take n (drop f xs) ++ get_or (x ∷ xs) k d ∷ []) e

within-more : (first place slot : ℕ) (xs : List Slice) (d : Slice) → first ≤ place → place < length xs
    → cells_within first (place + 1) slot xs ≡ cells_within first place slot xs ++ cells slot (get_or xs place d)
within-more first place slot xs d le lt =
    let e : place + 1 - first ≡ suc (place - first) = omega (arith, le) in
    let f : first + (place - first) ≡ place = omega (arith, le) in
    ap (λ n. flat_map (cells slot) (take n (drop first xs))) e
    ∙ ap (flat_map (cells slot)) (part-more xs first (place - first) d (omega (arith, le, lt)))
    ∙ flat_map-append (cells slot) (take (place - first) (drop first xs)) (get_or xs (first + (place - first)) d ∷ [])
    ∙ ap (λ l. cells_within first place slot xs ++ l) (right (cells slot (get_or xs (first + (place - first)) d)) ∙ ap (λ n. cells slot (get_or xs n d)) f)

part-count : (xs : List Slice) (f n slot : ℕ) (g : ℤ) → count_at (flat_map (cells slot) (take n (drop f xs))) g ≤ count_in xs slot g
part-count [] f n slot g = none f n
  where
    none : (f n : ℕ) → count_at (flat_map (cells slot) (take n (drop f []))) g ≤ 0
    none zero zero = omega arith
    none zero (suc n) = omega arith
    none (suc f) zero = omega arith
    none (suc f) (suc n) = omega arith
part-count (x ∷ xs) zero zero slot g = omega arith
part-count (x ∷ xs) zero (suc n) slot g =
    let a = part-count xs zero n slot g in
    let b = count-append g (cells slot x) (flat_map (cells slot) (take n xs)) in
    omega (arith, a, b)
part-count (x ∷ xs) (suc f) n slot g = let a = part-count xs f n slot g in omega (arith, a)

-- the cells of one slice more
pub gather-more : (first place slot : ℕ) (xs : List Slice) (d : Slice) (old new : List Cell) → first ≤ place → place < length xs
    → sums old ≡ sums (cells_within first place slot xs) → AreAppended old new (cells slot (get_or xs place d)) → sums new ≡ sums (cells_within first (place + 1) slot xs)
gather-more first place slot xs d old new le lt so_far more =
    ap sums more.items ∙ fold-append add_in [] old more.behind
    ∙ sym (merge (sums old) more.behind)
    ∙ ap₂ (fold add_in) so_far more.sums_are
    ∙ sym (fold-append add_in [] (cells_within first place slot xs) (cells slot (get_or xs place d)))
    ∙ sym (ap sums (within-more first place slot xs d le lt))

pub sound-more : (old new more : List Cell) → AllByRecursion IsSound old → AreAppended old new more → AllByRecursion IsSound new
sound-more old new more sound h = subst (AllByRecursion IsSound) (sym h.items) (joined old h.behind sound h.sound)
  where
    joined : (cs ds : List Cell) → AllByRecursion IsSound cs → AllByRecursion IsSound ds → AllByRecursion IsSound (cs ++ ds)
    joined [] ds p q = q
    joined (c ∷ cs) ds p q = (p.0, joined cs ds p.1 q)

-- no group comes to more than all slices count
pub gathered-few : (first past slot : ℕ) (xs : List Slice) (all : List Cell) → sums all ≡ sums (cells_within first past slot xs)
    → (g : ℤ) → count_in xs slot g ≤ 2 ^ 62 → count_at all g ≤ 2 ^ 62
gathered-few first past slot xs all is g few =
    let a = count-sums g all in
    let b = ap (λ l. count_at l g) is in
    let c = count-sums g (cells_within first past slot xs) in
    let d = part-count xs first (past - first) slot g in
    omega (arith, a, b, c, d, few)

none-taken : (slot : ℕ) (ys : List Slice) → flat_map (cells slot) (take 0 ys) ≡ []
none-taken slot [] = refl
none-taken slot (y ∷ ys) = refl

-- ---- the slices of a range

-- starts that are all later do not see a first slice
later-alike : (slot : ℕ) (x : Slice) (xs : List Slice) (ns : List ℕ) → AllByRecursion (λ n. x.start < n) ns
    → flat_map (λ n. cells_from (x ∷ xs) n slot) ns ≡ flat_map (λ n. cells_from xs n slot) ns
later-alike slot x xs [] h = refl
later-alike slot x xs (n ∷ ns) h =
    ap₂ (λ (a b : List Cell). a ++ b) (ap (λ b. cond b (cells slot x) (cells_from xs n slot)) (apart-above n x.start h.0)) (later-alike slot x xs ns h.1)

filter-later : (from to m : ℕ) (xs : List Slice) → AllByRecursion (λ (s : Slice). m < s.start) xs → AllByRecursion (λ n. m < n) (filter (is_between from to) (starts xs))
filter-later from to m [] h = tt
filter-later from to m (x ∷ xs) h = go (is_between from to x.start) (filter-later from to m xs h.1)
  where
    go : (b : Bool) → AllByRecursion (λ n. m < n) (filter (is_between from to) (starts xs))
        → AllByRecursion (λ n. m < n) (cond b (x.start ∷ filter (is_between from to) (starts xs)) (filter (is_between from to) (starts xs)))
    go true rest = (h.0, rest)
    go false rest = rest

filter-none : (from to : ℕ) (xs : List Slice) → AllByRecursion (λ (s : Slice). to ≤ s.start) xs → filter (is_between from to) (starts xs) ≡ []
filter-none from to [] h = refl
filter-none from to (x ∷ xs) h =
    ap (λ b. cond b (x.start ∷ filter (is_between from to) (starts xs)) (filter (is_between from to) (starts xs))) (outside (leb from x.start) (ltb x.start to) (le-ltb x.start to h.0))
    ∙ filter-none from to xs h.1
  where
    outside : (a b : Bool) → b ≡ false → (a && b) ≡ false
    outside true b e = e
    outside false b e = refl

-- of slices that rise, those that begin in a range stand together
pub window-cells : (from to slot : ℕ) (xs : List Slice) → StartsRise xs
    → flat_map (λ n. cells_from xs n slot) (filter (is_between from to) (starts xs)) ≡ cells_within (begun_before from xs) (begun_before to xs) slot xs
window-cells from to slot [] rise = refl
window-cells from to slot (x ∷ xs) rise = by_cases (cases_lt x.start from) (cases_lt x.start to) (window-cells from to slot xs rise.1)
  where
    rest : List ℕ
    rest = filter (is_between from to) (starts xs)

    before : ℕ
    before = begun_before from xs

    past : ℕ
    past = begun_before to xs

    all_later : (t : ℕ) → t ≤ x.start → AllByRecursion (λ (s : Slice). t ≤ s.start) xs
    all_later t le = all-by (λ (s : Slice). x.start < s.start) (λ (s : Slice). t ≤ s.start) (λ s lt. omega (arith, le, lt)) xs rise.0

    begun-zero : (t : ℕ) → t ≤ x.start → begun_before t (x ∷ xs) ≡ 0
    begun-zero t le = begun-later t x xs le ∙ begun-none t xs (all_later t le)

    behind : flat_map (λ n. cells_from (x ∷ xs) n slot) rest ≡ flat_map (λ n. cells_from xs n slot) rest
    behind = later-alike slot x xs rest (filter-later from to x.start xs rise.0)

    out : is_between from to x.start ≡ false → flat_map (λ n. cells_from (x ∷ xs) n slot) (filter (is_between from to) (starts (x ∷ xs))) ≡ flat_map (λ n. cells_from xs n slot) rest
    out e = ap (λ b. flat_map (λ n. cells_from (x ∷ xs) n slot) (cond b (x.start ∷ rest) rest)) e ∙ behind

    nothing : (a : ℕ) → to ≤ x.start → [] ≡ cells_within a (begun_before to (x ∷ xs)) slot (x ∷ xs)
    nothing a le =
        let e : begun_before to (x ∷ xs) - a ≡ 0 = let z = begun-zero to le in omega (arith, z) in
        sym (ap (λ n. flat_map (cells slot) (take n (drop a (x ∷ xs)))) e ∙ none-taken slot (drop a (x ∷ xs)))

    no_more : to ≤ x.start → flat_map (λ n. cells_from xs n slot) rest ≡ []
    no_more le = ap (flat_map (λ n. cells_from xs n slot)) (filter-none from to xs (all_later to le))

    both_out : (a b : Bool) → b ≡ false → (a && b) ≡ false
    both_out true b e = e
    both_out false b e = refl

    first_out : (a b : Bool) → a ≡ false → (a && b) ≡ false
    first_out true b e = absurd (cc)
    first_out false b e = refl

    both_in : (a b : Bool) → a ≡ true → b ≡ true → (a && b) ≡ true
    both_in true b e f = f
    both_in false b e f = absurd (cc)

    by_cases : (x.start < from) ⊎ (from ≤ x.start) → (x.start < to) ⊎ (to ≤ x.start) → flat_map (λ n. cells_from xs n slot) rest ≡ cells_within before past slot xs
        → flat_map (λ n. cells_from (x ∷ xs) n slot) (filter (is_between from to) (starts (x ∷ xs))) ≡ cells_within (begun_before from (x ∷ xs)) (begun_before to (x ∷ xs)) slot (x ∷ xs)
    by_cases (inl low) (inl high) more =
        let e : past - before ≡ suc past - suc before = omega arith in
        out (first_out (leb from x.start) (ltb x.start to) (lt-leb from x.start low)) ∙ more
        ∙ ap (λ n. flat_map (cells slot) (take n (drop before xs))) e
        ∙ sym (ap₂ (λ a b. cells_within a b slot (x ∷ xs)) (begun-first from x xs low) (begun-first to x xs high))
    by_cases (inl low) (inr le) more =
        out (both_out (leb from x.start) (ltb x.start to) (le-ltb x.start to le)) ∙ no_more le ∙ nothing (begun_before from (x ∷ xs)) le
    by_cases (inr ge) (inr le) more =
        out (both_out (leb from x.start) (ltb x.start to) (le-ltb x.start to le)) ∙ no_more le ∙ nothing (begun_before from (x ∷ xs)) le
    by_cases (inr ge) (inl high) more =
        let e : past - 0 ≡ past = omega arith in
        let f : suc past ≡ suc past - 0 = omega arith in
        ap (λ b. flat_map (λ n. cells_from (x ∷ xs) n slot) (cond b (x.start ∷ rest) rest)) (both_in (leb from x.start) (ltb x.start to) (le-leb from x.start ge) (lt-ltb x.start to high))
        ∙ ap₂ (λ (a b : List Cell). a ++ b) (ap (λ b. cond b (cells slot x) (cells_from xs x.start slot)) (eq-eqb x.start x.start refl)) (behind ∙ more)
        ∙ ap (λ a. cells slot x ++ cells_within a past slot xs) (begun-none from xs (all_later from ge))
        ∙ ap (λ n. cells slot x ++ flat_map (cells slot) (take n xs)) e
        ∙ ap (λ n. flat_map (cells slot) (take n (x ∷ xs))) f
        ∙ sym (ap₂ (λ a b. cells_within a b slot (x ∷ xs)) (begun-zero from ge) (begun-first to x xs high))

-- ---- how many cells

total-part : (xs : List Slice) (k : ℕ) (d : Slice) → k < length xs → total_in (take (suc k) xs) ≡ total_in (take k xs) + total (cells_at (get_or xs k d).table)
total-part [] k d lt = absurd (omega (arith, lt))
total-part (x ∷ xs) zero d lt = let a = ap total_in (take-none xs) in omega (arith, a)
  where
    take-none : (ys : List Slice) → take 0 ys ≡ []
    take-none [] = refl
    take-none (y ∷ ys) = refl
total-part (x ∷ xs) (suc k) d lt = let a = total-part xs k d (omega (arith, lt)) in omega (arith, a)

-- one slice more, in a count that stops at a limit
pub counted-more : (xs : List Slice) (k m count : ℕ) (d : Slice) → k < length xs → count ≡ min (total_in (take k xs)) m
    → min (count + total (cells_at (get_or xs k d).table)) m ≡ min (total_in (take (k + 1) xs)) m
counted-more xs k m count d lt so_far =
    let e : k + 1 ≡ suc k = omega arith in
    ap (λ n. min (n + total (cells_at (get_or xs k d).table)) m) so_far
    ∙ saturated (total_in (take k xs)) (total (cells_at (get_or xs k d).table)) m
    ∙ sym (ap (λ n. min n m) (ap (λ n. total_in (take n xs)) e ∙ total-part xs k d lt))
  where
    saturated : (a b m : ℕ) → min (min a m + b) m ≡ min (a + b) m
    saturated a b m = omega (arith, clamps)
