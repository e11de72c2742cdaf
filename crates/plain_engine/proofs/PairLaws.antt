-- Records that stand by key: how they are cut at a key, and the pairs of a left record with those of its key.
use Rattle.std.proofs.Common.{◌≡◌, ℕ, ℤ, int_le, int_lt, Bool, true, false, not, ◌&&◌, List, get_or, drop, map, sym, ap, ◌∙◌, arith}
use Rattle.std.specs.Cmp.{IsStrictWeakOrder}
use Rattle.std.specs.List.{filter}
use Rattle.std.specs.List.Sorted.{IsPartitionedBy, IsStableByKey, ties}
use Rattle.std.specs.Ordering.{int_cmp, int_eq, is_lt}
use Rattle.std.proofs.lemmas.Cmp.{int_cmp_total}
use Rattle.std.proofs.lemmas.Int.{ints}
use Rattle.std.proofs.lemmas.List.Elements.{filter_agree}
use Rattle.std.proofs.lemmas.List.Sorted.{ranks_by, sorted_far}
use Rattle.as_base.specs.declared.item.Given.{Given}
use Rattle.views.specs.Pairs.{couple, couples_with, couples}
use Rattle.views.proofs.ListLaws.{All-every, filter-filter, flat_map-same}
use Rattle.views.proofs.SortLaws.{NeverFallsBy-from_sorted, NeverFallsBy-filter, sorted_from_NeverFallsBy}
use Rattle.plain_engine.specs.ByKey.{AreByKey}
use Rattle.plain_engine.proofs.CutLaws.{IsCutAt, cut-rest}

-- ---- numbers

-- with a number each lower one is below z, and is up to z
below-still : (x y z : ℤ) → is_lt (int_cmp y x) ≡ false → int_lt y z ≡ true → int_lt x z ≡ true
below-still x y z up passes = grind (arith, ints)

upto-still : (x y z : ℤ) → is_lt (int_cmp y x) ≡ false → int_le y z ≡ true → int_le x z ≡ true
upto-still x y z up passes = grind (arith, ints)

not_below : (x z : ℤ) → not (int_lt x z) ≡ int_le z x
not_below x z = grind (arith, ints)

at_both : (x z : ℤ) → (int_le z x && int_le x z) ≡ int_eq z x
at_both x z = grind (arith, ints)

same_ties : (x y : ℤ) → (not (is_lt (int_cmp x y)) && not (is_lt (int_cmp y x))) ≡ int_eq x y
same_ties x y = grind (arith, ints)

-- ---- records

abbrev key_below : Given → Given → Bool
key_below g h = is_lt (int_cmp g.key h.key)

key_weak : IsStrictWeakOrder key_below
key_weak = ranks_by int_cmp_total (λ (g : Given). g.key)

pub partitioned-below : (z : ℤ) (gs : List Given) → AreByKey gs → IsPartitionedBy (λ (g : Given). int_lt g.key z) gs
partitioned-below z gs up i j d le within passes = below-still (get_or gs i d).key (get_or gs j d).key z (sorted_far key_below key_weak gs up i j d le within) passes

pub partitioned-upto : (z : ℤ) (gs : List Given) → AreByKey gs → IsPartitionedBy (λ (g : Given). int_le g.key z) gs
partitioned-upto z gs up i j d le within passes = upto-still (get_or gs i d).key (get_or gs j d).key z (sorted_far key_below key_weak gs up i j d le within) passes

-- what is cut off at the key
pub cut-from : (z : ℤ) (i : ℕ) (gs : List Given) → IsCutAt (λ (g : Given). int_lt g.key z) gs i → drop i gs ≡ filter (λ (g : Given). int_le z g.key) gs
cut-from z i gs h =
    cut-rest (λ (g : Given). int_lt g.key z) i gs h
    ∙ filter_agree (λ (g : Given). not (int_lt g.key z)) (λ (g : Given). int_le z g.key) (λ g. not_below g.key z) gs

-- the records from the key on, and of these the ones up to it, are those of the key
filter-key : (z : ℤ) (gs : List Given) → filter (λ (g : Given). int_le g.key z) (filter (λ (g : Given). int_le z g.key) gs) ≡ filter (λ (g : Given). int_eq z g.key) gs
filter-key z gs =
    filter-filter (λ (g : Given). int_le g.key z) (λ (g : Given). int_le z g.key) gs
    ∙ filter_agree (λ (g : Given). int_le z g.key && int_le g.key z) (λ (g : Given). int_eq z g.key) (λ g. at_both g.key z) gs

-- the same where the ends are numbers that come to the key
pub both-cuts : (z low high : ℤ) (gs from upto : List Given) → low ≡ z → high ≡ z → from ≡ filter (λ (g : Given). int_le low g.key) gs → upto ≡ filter (λ (g : Given). int_le g.key high) from
    → upto ≡ filter (λ (g : Given). int_eq z g.key) gs
both-cuts z low high gs from upto same_low same_high first second =
    second
    ∙ ap (λ y. filter (λ (g : Given). int_le g.key y) from) same_high
    ∙ ap (filter (λ (g : Given). int_le g.key z)) (first ∙ ap (λ y. filter (λ (g : Given). int_le y g.key) gs) same_low)
    ∙ filter-key z gs

-- a filter keeps the order
pub by_key-filter : (p : Given → Bool) (gs : List Given) → AreByKey gs → AreByKey (filter p gs)
by_key-filter p gs up = sorted_from_NeverFallsBy key_below (filter p gs) (NeverFallsBy-filter key_below p gs (NeverFallsBy-from_sorted key_below key_weak gs up))

-- a stable sort by key leaves the records of each key as they are
pub couples_with-stable : (gs hs : List Given) → IsStableByKey (λ (g : Given). g.key) int_cmp gs hs → (l : Given) → couples_with hs l ≡ couples_with gs l
couples_with-stable gs hs stable l = ap (map (couple l)) (sym (tie hs) ∙ stable l ∙ tie gs)
  where
    tie : (xs : List Given) → filter (ties key_below l) xs ≡ filter (λ (r : Given). int_eq l.key r.key) xs
    tie xs = filter_agree (ties key_below l) (λ (r : Given). int_eq l.key r.key) (λ r. same_ties l.key r.key) xs

-- pairs with the same records of each key
pub couples-same : (lefts gs hs : List Given) → ((l : Given) → couples_with hs l ≡ couples_with gs l) → couples lefts hs ≡ couples lefts gs
couples-same lefts gs hs same = flat_map-same (couples_with hs) (couples_with gs) lefts (All-every (λ l. couples_with hs l ≡ couples_with gs l) same lefts)
