-- What cells add up to: counts by group, the rising order, how many cells it is, and that a sort gives it.
use Rattle.std.proofs.Common.{◌≡◌, inl, inr, ℕ, zero, suc, ℤ, ◌+◌, ◌≤◌, ◌<◌, Bool, cond, true, false, true≢false, int_lt, List, [], ◌∷◌, length, get_or, set, refl, sym, ap, subst, ◌∙◌, arith}
use Rattle.std.specs.List.{fold, AllByRecursion}
use Rattle.std.specs.List.Sorted.{IsPermutation, IsSortedByKey}
use Rattle.std.specs.Ordering.{int_eq, int_cmp, is_lt}
use Rattle.std.specs.declared.cmp.Ordering.TheVariants.{Less, Equal, Greater}
use Rattle.std.proofs.lemmas.Bool.Decides.{Decides-int_eq}
use Rattle.std.proofs.lemmas.List.{set-get_or}
use Rattle.std.proofs.lemmas.List.Edits.{swap_is}
use Rattle.std.proofs.lemmas.List.Sorted.{IsPermutation-keeps, length_permutation}
use Rattle.as_base.specs.declared.fragment.Cell.{Cell}
use Rattle.group_table.specs.Cells.{blank, add_in, sums, count_at, times, IsRising, NeverFalls}
use Rattle.group_table.proofs.CellLaws.{cases_group, lt_through, past, here, one, add_free, fold_last}

pub eq-from : (a b : ℤ) → int_eq a b ≡ true → a ≡ b
eq-from a b h = (Decides-int_eq a b).0 h

pub eq-to : (a b : ℤ) → a ≡ b → int_eq a b ≡ true
eq-to a b h = (Decides-int_eq a b).1 h

-- ---- counts

-- a cell adds what it counts to its group
pub count-added : (g : ℤ) (l : List Cell) (c : Cell) → count_at (add_in l c) g ≡ count_at (c ∷ l) g
count-added g [] c = refl
count-added g (d ∷ ds) c = elim (cases_group d.group c.group) [
  | inl e ↦ ap (λ l. count_at l g) (past d ds c e) ∙ (let h = count-added g ds c in omega (arith, h))
  | inr (inl e) ↦ ap (λ l. count_at l g) (here d ds c e)
  | inr (inr e) ↦ ap (λ l. count_at l g) (one d ds c e) ∙ joined (int_eq d.group g) (int_eq c.group g) d.count c.count (count_at ds g) (ap (λ k. int_eq k g) e)
]
  where
    joined : (b b' : Bool) (x y z : ℕ) → b ≡ b' → cond b (x + y) 0 + z ≡ cond b' y 0 + (cond b x 0 + z)
    joined true true x y z e = omega arith
    joined false false x y z e = omega arith
    joined true false x y z e = absurd (true≢false e)
    joined false true x y z e = absurd (true≢false (sym e))

pub count-folded : (g : ℤ) (cs l : List Cell) → count_at (fold add_in l cs) g ≡ count_at cs g + count_at l g
count-folded g [] l = omega arith
count-folded g (c ∷ cs) l = let a = count-folded g cs (add_in l c) in let b = count-added g l c in omega (arith, a, b)

-- a group counts what all its cells count
pub count-sums : (g : ℤ) (cs : List Cell) → count_at (sums cs) g ≡ count_at cs g
count-sums g cs = let a = count-folded g cs [] in omega (arith, a)

-- ---- by rising group

abbrev pub IsAbove : ℤ → List Cell → Type 0
IsAbove g cs = AllByRecursion (λ (later : Cell). int_lt g later.group ≡ true) cs

above-added : (x : ℤ) (l : List Cell) (c : Cell) → IsAbove x l → int_lt x c.group ≡ true → IsAbove x (add_in l c)
above-added x [] c a e = (e, tt)
above-added x (d ∷ ds) c a e = elim (cases_group d.group c.group) [
  | inl f ↦ subst (IsAbove x) (sym (past d ds c f)) (a.0, above-added x ds c a.1 e)
  | inr (inl f) ↦ subst (IsAbove x) (sym (here d ds c f)) (e, a)
  | inr (inr f) ↦ subst (IsAbove x) (sym (one d ds c f)) a
]

pub above-through : (x y : ℤ) (l : List Cell) → int_lt x y ≡ true → IsAbove y l → IsAbove x l
above-through x y [] e a = tt
above-through x y (d ∷ ds) e a = (lt_through x y d.group e a.0, above-through x y ds e a.1)

pub rising-added : (l : List Cell) (c : Cell) → IsRising l → IsRising (add_in l c)
rising-added [] c r = (tt, tt)
rising-added (d ∷ ds) c r = elim (cases_group d.group c.group) [
  | inl f ↦ subst IsRising (sym (past d ds c f)) (above-added d.group ds c r.0 f, rising-added ds c r.1)
  | inr (inl f) ↦ subst IsRising (sym (here d ds c f)) ((f, above-through c.group d.group ds f r.0), r)
  | inr (inr f) ↦ subst IsRising (sym (one d ds c f)) r
]

pub rising-folded : (cs l : List Cell) → IsRising l → IsRising (fold add_in l cs)
rising-folded [] l r = r
rising-folded (c ∷ cs) l r = rising-folded cs (add_in l c) (rising-added l c r)

-- what cells add up to is by strictly rising group
pub rising-sums : (cs : List Cell) → IsRising (sums cs)
rising-sums cs = rising-folded cs [] tt

-- ---- how many cells

times-added : (g : ℤ) (l : List Cell) (c : Cell) → times g (add_in l c) ≤ times g (c ∷ l)
times-added g [] c = omega arith
times-added g (d ∷ ds) c = elim (cases_group d.group c.group) [
  | inl e ↦ subst (λ l. times g l ≤ times g (c ∷ d ∷ ds)) (sym (past d ds c e)) (let h = times-added g ds c in omega (arith, h))
  | inr (inl e) ↦ subst (λ l. times g l ≤ times g (c ∷ d ∷ ds)) (sym (here d ds c e)) (omega arith)
  | inr (inr e) ↦ subst (λ l. times g l ≤ times g (c ∷ d ∷ ds)) (sym (one d ds c e)) (omega arith)
]

-- a cell of a new group is one cell more
length-added : (l : List Cell) (c : Cell) → times c.group l ≡ 0 → length (add_in l c) ≡ length l + 1
length-added [] c h = refl
length-added (d ∷ ds) c h = elim (cases_group d.group c.group) [
  | inl e ↦ ap length (past d ds c e) ∙ (let k = length-added ds c (omega (arith, h)) in omega (arith, k))
  | inr (inl e) ↦ ap length (here d ds c e) ∙ (omega arith)
  | inr (inr e) ↦ absurd (let b = ap (λ b. cond {A = ℕ} b 1 0) (eq-to d.group c.group e) in omega (arith, h, b))
]

length-folded : (cs l : List Cell) → ((g : ℤ) → times g cs + times g l ≤ 1) → length (fold add_in l cs) ≡ length l + length cs
length-folded [] l once = omega arith
length-folded (c ∷ cs) l once =
    let own = ap (λ b. cond {A = ℕ} b 1 0) (eq-to c.group c.group refl) in
    let new : times c.group l ≡ 0 = let h = once c.group in omega (arith, h, own) in
    let a = length-added l c new in
    let rest = length-folded cs (add_in l c) (λ g. let h = once g in let k = times-added g l c in omega (arith, h, k)) in
    omega (arith, a, rest)

-- where no group has two cells, the sums are as many
pub length-sums : (cs : List Cell) → ((g : ℤ) → times g cs ≤ 1) → length (sums cs) ≡ length cs
length-sums cs once = let a = length-folded cs [] (λ g. let h = once g in omega (arith, h)) in omega (arith, a)

-- ---- in another order

set-turn : (b : List Cell) (l : List Cell) (j : ℕ) (x y : Cell) → j < length l → fold add_in (add_in b y) (set l j x) ≡ fold add_in (add_in b x) (set l j y)
set-turn b [] j x y h = absurd (omega (arith, h))
set-turn b (z ∷ l) zero x y h = ap (λ k. fold add_in k l) (add_free b y x)
set-turn b (z ∷ l) (suc j) x y h =
    ap (λ k. fold add_in k (set l j x)) (add_free b y z) ∙ set-turn (add_in b z) l j x y (omega (arith, h)) ∙ ap (λ k. fold add_in k (set l j y)) (add_free b z x)

both-turn : (b : List Cell) (l : List Cell) (i j : ℕ) (x y : Cell) → i < length l → j < length l → (j ≡ i → x ≡ y) → fold add_in b (set (set l i y) j x) ≡ fold add_in b (set (set l i x) j y)
both-turn b [] i j x y h k n = absurd (omega (arith, h))
both-turn b (z ∷ l) zero zero x y h k n = ap (λ w. fold add_in (add_in b w) l) (n refl)
both-turn b (z ∷ l) zero (suc j) x y h k n = set-turn b l j x y (omega (arith, k))
both-turn b (z ∷ l) (suc i) zero x y h k n = set-turn b l i y x (omega (arith, h))
both-turn b (z ∷ l) (suc i) (suc j) x y h k n = both-turn (add_in b z) l i j x y (omega (arith, h)) (omega (arith, k)) (λ e. n (ap suc e))

swapped : (l : List Cell) (i j : ℕ) (d : Cell) → i < length l → j < length l → sums (set (set l i (get_or l j d)) j (get_or l i d)) ≡ sums l
swapped l i j d h k =
    both-turn [] l i j (get_or l i d) (get_or l j d) h k (λ e. ap (λ n. get_or l n d) (sym e))
    ∙ ap (λ w. sums (set w j (get_or l j d))) (set-get_or l i d) ∙ ap sums (set-get_or l j d)

-- cells in another order add up to the same
pub sums-permuted : (xs ys : List Cell) → IsPermutation xs ys → sums ys ≡ sums xs
sums-permuted xs ys = IsPermutation-keeps xs (λ l. sums l ≡ sums xs) refl (λ l i j p q h.
    let d : Cell = get_or l i blank in
    ap sums (sym (swap_is l i j d p q)) ∙ swapped l i j d p q ∙ h) ys

-- ---- sorted

length-most : (l : List Cell) (c : Cell) → length (add_in l c) ≤ length l + 1
length-most [] c = omega arith
length-most (d ∷ ds) c = elim (cases_group d.group c.group) [
  | inl e ↦ let a = ap length (past d ds c e) in let k = length-most ds c in omega (arith, a, k)
  | inr (inl e) ↦ let a = ap length (here d ds c e) in omega (arith, a)
  | inr (inr e) ↦ let a = ap length (one d ds c e) in omega (arith, a)
]

length-sums-most : (cs : List Cell) → length (sums cs) ≤ length cs
length-sums-most [] = omega arith
length-sums-most (c ∷ cs) = let a = ap length (fold_last [] c cs) in let b = length-most (sums cs) c in let k = length-sums-most cs in omega (arith, a, b, k)

falls-rest : (c : Cell) (cs : List Cell) → NeverFalls (c ∷ cs) → NeverFalls cs
falls-rest c cs h = λ k j d e l. h (suc k) (suc j) d (omega (arith, e)) (omega (arith, l))

first-added : (c : Cell) (cs : List Cell) → NeverFalls (c ∷ cs) → length (add_in cs c) ≡ length cs + 1 → add_in cs c ≡ c ∷ cs
first-added c [] h long = refl
first-added c (d ∷ ds) h long = elim (cases_group d.group c.group) [
  | inl e ↦ absurd (true≢false (sym e ∙ h 0 1 d (omega arith) (omega arith)))
  | inr (inl e) ↦ here d ds c e
  | inr (inr e) ↦ absurd (let a = ap length (one d ds c e) in omega (arith, a, long))
]

-- cells that never fall and are as many as their sums are their own sums
pub sums-sorted : (cs : List Cell) → NeverFalls cs → length (sums cs) ≡ length cs → sums cs ≡ cs
sums-sorted [] h long = refl
sums-sorted (c ∷ cs) h long =
    let last : sums (c ∷ cs) ≡ add_in (sums cs) c = fold_last [] c cs in
    let a = ap length last in
    let b = length-most (sums cs) c in
    let k = length-sums-most cs in
    let rest : sums cs ≡ cs = sums-sorted cs (falls-rest c cs h) (omega (arith, a, b, k, long)) in
    let is : sums (c ∷ cs) ≡ add_in cs c = last ∙ ap (λ l. add_in l c) rest in
    let e = ap length is in
    is ∙ first-added c cs h (omega (arith, e, long))

-- a sort gives the sums, where no group has two cells
pub sorted-is : (xs ys : List Cell) → IsPermutation xs ys → NeverFalls ys → ((g : ℤ) → times g xs ≤ 1) → ys ≡ sums xs
sorted-is xs ys moved order once =
    let same = sums-permuted xs ys moved in
    let a = ap length same in
    let b = length-sums xs once in
    let k = length_permutation xs ys moved in
    sym (sums-sorted ys order (omega (arith, a, b, k))) ∙ same

below-from : (a b : ℤ) → is_lt (int_cmp a b) ≡ false → int_lt a b ≡ false
below-from a b h = go (int_lt a b) refl
  where
    go : (t : Bool) → int_lt a b ≡ t → t ≡ false
    go false e = refl
    go true e = absurd (true≢false (sym (ap (λ t. is_lt (cond t Less (cond (int_lt b a) Greater Equal))) e) ∙ h))

-- what a sort by the groups ensures
pub falls-sorted : (cs : List Cell) → IsSortedByKey (λ (c : Cell). c.group) int_cmp cs → NeverFalls cs
falls-sorted cs h = λ k j d e l.
    below-from (get_or cs j d).group (get_or cs k d).group
    (subst (λ n. is_lt (int_cmp (get_or cs n d).group (get_or cs k d).group) ≡ false) (sym e) (h k d (omega arith) (omega (arith, e, l))))
