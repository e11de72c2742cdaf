-- Records by time and then by line, as a stable sort puts them.
use Rattle.std.proofs.Common.{◌≡◌, ℕ, nat_lt, eqb, Bool, true, false, true≢false, cond, ◌&&◌, ◌||◌, List, [], ◌∷◌, refl, sym, ap, ◌∙◌}
use Rattle.std.specs.Cmp.{IsTotalOrder, IsStrictWeakOrder}
use Rattle.std.specs.List.{filter, AllByRecursion}
use Rattle.std.specs.List.Sorted.{IsSortedBy, IsStableBy, ties}
use Rattle.std.specs.Ordering.{nat_cmp, is_lt, ordering_then}
use Rattle.std.specs.declared.cmp.Ordering.{Ordering}
use Rattle.std.specs.declared.cmp.Ordering.TheVariants.{Less, Equal, Greater}
use Rattle.std.proofs.lemmas.Cmp.{nat_cmp_total, on_total, then_total}
use Rattle.std.proofs.lemmas.List.Sorted.{ranks_by}
use Rattle.as_base.specs.declared.item.Record.{Record}
use Rattle.views.specs.Order.{comes_before}
use Rattle.views.proofs.ListLaws.{All-by}
use Rattle.views.proofs.SortLaws.{NeverFallsBy, NeverFallsBy-from_sorted, same_by_ties, tied_apart}
use Rattle.result_router.specs.Rows.{put_record, in_order}

abbrev pub compare : Record → Record → Ordering
compare r s = ordering_then (nat_cmp r.given.time s.given.time) (nat_cmp r.seq s.seq)

abbrev pub below : Record → Record → Bool
below r s = is_lt (compare r s)

compare_total : IsTotalOrder compare
compare_total = then_total (on_total (λ (r : Record). r.given.time) nat_cmp_total) (on_total (λ (r : Record). r.seq) nat_cmp_total)

below_weak : IsStrictWeakOrder below
below_weak = ranks_by compare_total (λ r. r)

-- the comparison by time and line says which comes before
before_is : (r s : Record) → comes_before r s ≡ below r s
before_is r s = go (nat_lt r.given.time s.given.time) (eqb r.given.time s.given.time) (nat_lt r.seq s.seq) (eqb r.seq s.seq)
  where
    go : (lower same low alike : Bool) → (lower || (same && low)) ≡ is_lt (ordering_then (cond lower Less (cond same Equal Greater)) (cond low Less (cond alike Equal Greater)))
    go true same low alike = refl
    go false true true alike = refl
    go false true false true = refl
    go false true false false = refl
    go false false low alike = refl

All-put_record : (P : Record → Type 0) (r : Record) (ss : List Record) → P r → AllByRecursion P ss → AllByRecursion P (put_record r ss)
All-put_record P r [] here h = (here, tt)
All-put_record P r (s ∷ ss) here h = go (comes_before s r) (All-put_record P r ss here h.1)
  where
    go : (b : Bool) → AllByRecursion P (put_record r ss) → AllByRecursion P (cond b (s ∷ put_record r ss) (r ∷ s ∷ ss))
    go true rest = (h.0, rest)
    go false rest = (here, h)

put_record-rises : (r : Record) (ss : List Record) → NeverFallsBy below ss → NeverFallsBy below (put_record r ss)
put_record-rises r [] h = (tt, tt)
put_record-rises r (s ∷ ss) h = go (comes_before s r) (sym (before_is s r)) (put_record-rises r ss h.1)
  where
    go : (b : Bool) → below s r ≡ b → NeverFallsBy below (put_record r ss) → NeverFallsBy below (cond b (s ∷ put_record r ss) (r ∷ s ∷ ss))
    go true e rest = (All-put_record (λ x. below x s ≡ false) r ss (below_weak.one_way s r e) h.0, rest)
    go false e rest = ((e, All-by (λ x. below x s ≡ false) (λ x. below x r ≡ false) (λ x up. below_weak.chain x s r up e) ss h.0), h)

in_order-rises : (rs : List Record) → NeverFallsBy below (in_order rs)
in_order-rises [] = tt
in_order-rises (r ∷ rs) = put_record-rises r (in_order rs) (in_order-rises rs)

put_record-ties : (z r : Record) (ss : List Record) → filter (ties below z) (put_record r ss) ≡ filter (ties below z) (r ∷ ss)
put_record-ties z r [] = refl
put_record-ties z r (s ∷ ss) = go (comes_before s r) (sym (before_is s r)) (put_record-ties z r ss)
  where
    swap : (a b : Bool) → ties below z s ≡ a → ties below z r ≡ b → below s r ≡ true
        → cond a (s ∷ cond b (r ∷ filter (ties below z) ss) (filter (ties below z) ss)) (cond b (r ∷ filter (ties below z) ss) (filter (ties below z) ss))
        ≡ cond b (r ∷ cond a (s ∷ filter (ties below z) ss) (filter (ties below z) ss)) (cond a (s ∷ filter (ties below z) ss) (filter (ties below z) ss))
    swap true true e f low = absurd (true≢false (sym low ∙ tied_apart below below_weak z s r e f))
    swap true false e f low = refl
    swap false true e f low = refl
    swap false false e f low = refl

    go : (b : Bool) → below s r ≡ b → filter (ties below z) (put_record r ss) ≡ filter (ties below z) (r ∷ ss)
        → filter (ties below z) (cond b (s ∷ put_record r ss) (r ∷ s ∷ ss)) ≡ filter (ties below z) (r ∷ s ∷ ss)
    go true e rest = ap (λ l. cond (ties below z s) (s ∷ l) l) rest ∙ swap (ties below z s) (ties below z r) refl refl e
    go false e rest = refl

in_order-stable : (rs : List Record) → IsStableBy below rs (in_order rs)
in_order-stable [] z = refl
in_order-stable (r ∷ rs) z = put_record-ties z r (in_order rs) ∙ ap (λ l. cond (ties below z r) (r ∷ l) l) (in_order-stable rs z)

-- what a stable sort by time and line gives
pub sorted-in_order : (rs ss : List Record) → IsSortedBy below ss → IsStableBy below rs ss → ss ≡ in_order rs
sorted-in_order rs ss up stable =
    same_by_ties below below_weak ss (in_order rs) (NeverFallsBy-from_sorted below below_weak ss up) (in_order-rises rs) (λ z. stable z ∙ sym (in_order-stable rs z))
