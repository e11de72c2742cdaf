-- The pairs of records stand by the numbers of their rows, as a stable sort puts them, and none is lost.
use Rattle.std.proofs.Common.{◌≡◌, ℕ, ◌+◌, Bool, true, false, cond, ◌&&◌, List, [], ◌∷◌, map, refl, sym, ap, ◌∙◌, true≢false, arith}
use Rattle.std.specs.Cmp.{IsTotalOrder, IsStrictWeakOrder}
use Rattle.std.specs.List.{filter, count_by, sum_by, AllByRecursion}
use Rattle.std.specs.List.Sorted.{IsSortedBy, IsStableBy, ties}
use Rattle.std.specs.Ordering.{int_eq, is_lt}
use Rattle.std.proofs.lemmas.Cmp.{nat_cmp_total, int_cmp_total, lists_total, on_total, then_total}
use Rattle.std.proofs.lemmas.List.Sorted.{ranks_by}
use Rattle.std.proofs.lemmas.List.Sums.{sum_by-cons, sum_by-append}
use Rattle.as_base.specs.declared.fragment.Couple.{Couple}
use Rattle.as_base.specs.declared.item.Given.{Given}
use Rattle.views.specs.Pairs.{couple, couples_with, couples, compare, put_couple, by_numbers, pairs}
use Rattle.views.proofs.ListLaws.{All-by}
use Rattle.views.proofs.SortLaws.{NeverFallsBy, NeverFallsBy-from_sorted, sorted_from_NeverFallsBy, same_by_ties, tied_apart}

-- the first pair's numbers are below those of the second
abbrev pub below : Couple → Couple → Bool
below c d = is_lt (compare c d)

pub compare_total : IsTotalOrder compare
compare_total =
    then_total (then_total (then_total (then_total
    (on_total (λ (c : Couple). c.left.key) int_cmp_total)
    (on_total (λ (c : Couple). c.left.time) nat_cmp_total))
    (on_total (λ (c : Couple). c.left.v) (lists_total int_cmp_total)))
    (on_total (λ (c : Couple). c.right.time) nat_cmp_total))
    (on_total (λ (c : Couple). c.right.v) (lists_total int_cmp_total))

pub below_weak : IsStrictWeakOrder below
below_weak = ranks_by compare_total (λ c. c)

-- ---- in order

-- what holds of the pair and of each of the others
All-put_couple : (P : Couple → Type 0) (c : Couple) (ds : List Couple) → P c → AllByRecursion P ds → AllByRecursion P (put_couple c ds)
All-put_couple P c [] here h = (here, tt)
All-put_couple P c (d ∷ ds) here h = go (below d c) (All-put_couple P c ds here h.1)
  where
    go : (b : Bool) → AllByRecursion P (put_couple c ds) → AllByRecursion P (cond b (d ∷ put_couple c ds) (c ∷ d ∷ ds))
    go true rest = (h.0, rest)
    go false rest = (here, h)

put_couple-rises : (c : Couple) (ds : List Couple) → NeverFallsBy below ds → NeverFallsBy below (put_couple c ds)
put_couple-rises c [] h = (tt, tt)
put_couple-rises c (d ∷ ds) h = go (below d c) refl (put_couple-rises c ds h.1)
  where
    go : (b : Bool) → below d c ≡ b → NeverFallsBy below (put_couple c ds) → NeverFallsBy below (cond b (d ∷ put_couple c ds) (c ∷ d ∷ ds))
    go true e rest = (All-put_couple (λ x. below x d ≡ false) c ds (below_weak.one_way d c e) h.0, rest)
    go false e rest = ((e, All-by (λ x. below x d ≡ false) (λ x. below x c ≡ false) (λ x up. below_weak.chain x d c up e) ds h.0), h)

pub by_numbers-rises : (cs : List Couple) → NeverFallsBy below (by_numbers cs)
by_numbers-rises [] = tt
by_numbers-rises (c ∷ cs) = put_couple-rises c (by_numbers cs) (by_numbers-rises cs)

pub by_numbers-sorted : (cs : List Couple) → IsSortedBy below (by_numbers cs)
by_numbers-sorted cs = sorted_from_NeverFallsBy below (by_numbers cs) (by_numbers-rises cs)

-- ---- equal ones stay

put_couple-ties : (z c : Couple) (ds : List Couple) → filter (ties below z) (put_couple c ds) ≡ filter (ties below z) (c ∷ ds)
put_couple-ties z c [] = refl
put_couple-ties z c (d ∷ ds) = go (below d c) refl (put_couple-ties z c ds)
  where
    swap : (a b : Bool) → ties below z d ≡ a → ties below z c ≡ b → below d c ≡ true
        → cond a (d ∷ cond b (c ∷ filter (ties below z) ds) (filter (ties below z) ds)) (cond b (c ∷ filter (ties below z) ds) (filter (ties below z) ds))
        ≡ cond b (c ∷ cond a (d ∷ filter (ties below z) ds) (filter (ties below z) ds)) (cond a (d ∷ filter (ties below z) ds) (filter (ties below z) ds))
    swap true true e f low = absurd (true≢false (sym low ∙ tied_apart below below_weak z d c e f))
    swap true false e f low = refl
    swap false true e f low = refl
    swap false false e f low = refl

    go : (b : Bool) → below d c ≡ b → filter (ties below z) (put_couple c ds) ≡ filter (ties below z) (c ∷ ds)
        → filter (ties below z) (cond b (d ∷ put_couple c ds) (c ∷ d ∷ ds)) ≡ filter (ties below z) (c ∷ d ∷ ds)
    go true e rest = ap (λ l. cond (ties below z d) (d ∷ l) l) rest ∙ swap (ties below z d) (ties below z c) refl refl e
    go false e rest = refl

pub by_numbers-stable : (cs : List Couple) → IsStableBy below cs (by_numbers cs)
by_numbers-stable [] z = refl
by_numbers-stable (c ∷ cs) z = put_couple-ties z c (by_numbers cs) ∙ ap (λ l. cond (ties below z c) (c ∷ l) l) (by_numbers-stable cs z)

-- What a stable sort by the numbers gives is what stands here by definition.
pub sorted-by_numbers : (cs ds : List Couple) → IsSortedBy below ds → IsStableBy below cs ds → ds ≡ by_numbers cs
sorted-by_numbers cs ds up stable =
    same_by_ties below below_weak ds (by_numbers cs) (NeverFallsBy-from_sorted below below_weak ds up) (by_numbers-rises cs) (λ z. stable z ∙ sym (by_numbers-stable cs z))

-- ---- none is lost

sum_by-put_couple : (f : Couple → ℕ) (c : Couple) (ds : List Couple) → sum_by f (put_couple c ds) ≡ f c + sum_by f ds
sum_by-put_couple f c [] = sum_by-cons f c []
sum_by-put_couple f c (d ∷ ds) = go (below d c) (sum_by-put_couple f c ds)
  where
    go : (b : Bool) → sum_by f (put_couple c ds) ≡ f c + sum_by f ds → sum_by f (cond b (d ∷ put_couple c ds) (c ∷ d ∷ ds)) ≡ f c + sum_by f (d ∷ ds)
    go true rest = omega (arith, rest, sum_by-cons f d (put_couple c ds), sum_by-cons f d ds)
    go false rest = sum_by-cons f c (d ∷ ds)

sum_by-by_numbers : (f : Couple → ℕ) (cs : List Couple) → sum_by f (by_numbers cs) ≡ sum_by f cs
sum_by-by_numbers f [] = refl
sum_by-by_numbers f (c ∷ cs) = omega (arith, sum_by-put_couple f c (by_numbers cs), sum_by-by_numbers f cs, sum_by-cons f c cs)

count_by-picked : {X Y : Type 0} (p : Y → Bool) (f : X → Y) (q : X → Bool) (xs : List X) → count_by p (map f (filter q xs)) ≡ count_by (λ x. q x && p (f x)) xs
count_by-picked p f q [] = refl
count_by-picked p f q (x ∷ xs) = go (q x) (count_by-picked p f q xs) ∙ sym (sum_by-cons (λ x. cond (q x && p (f x)) 1 0) x xs)
  where
    go : (b : Bool) → count_by p (map f (filter q xs)) ≡ count_by (λ x. q x && p (f x)) xs
        → count_by p (map f (cond b (x ∷ filter q xs) (filter q xs))) ≡ cond (b && p (f x)) 1 0 + count_by (λ x. q x && p (f x)) xs
    go true rest = sum_by-cons (λ y. cond (p y) 1 0) (f x) (map f (filter q xs)) ∙ ap (λ n. cond (p (f x)) 1 0 + n) rest
    go false rest = omega (arith, rest)

count_by-couples : (p : Couple → Bool) (lefts rights : List Given) → count_by p (couples lefts rights) ≡ sum_by (λ (l : Given). count_by (λ (r : Given). int_eq l.key r.key && p (couple l r)) rights) lefts
count_by-couples p [] rights = refl
count_by-couples p (l ∷ lefts) rights =
    sum_by-append (λ c. cond (p c) 1 0) (couples_with rights l) (couples lefts rights)
    ∙ ap (λ n. n + count_by p (couples lefts rights)) (count_by-picked p (couple l) (λ (r : Given). int_eq l.key r.key) rights)
    ∙ ap (λ n. count_by (λ (r : Given). int_eq l.key r.key && p (couple l r)) rights + n) (count_by-couples p lefts rights)
    ∙ sym (sum_by-cons (λ (l : Given). count_by (λ (r : Given). int_eq l.key r.key && p (couple l r)) rights) l lefts)

pub count_by-pairs : (p : Couple → Bool) (lefts rights : List Given) → count_by p (pairs lefts rights) ≡ sum_by (λ (l : Given). count_by (λ (r : Given). int_eq l.key r.key && p (couple l r)) rights) lefts
count_by-pairs p lefts rights = sum_by-by_numbers (λ c. cond (p c) 1 0) (couples lefts rights) ∙ count_by-couples p lefts rights
