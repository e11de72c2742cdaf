-- Unions of sets of slots, slot by slot.
use Rattle.std.proofs.Common.{◌≡◌, ℕ, ◌+◌, ◌-◌, ◌<◌, ◌≤◌, Bool, true, false, not, ◌&&◌, ◌||◌, List, [], ◌∷◌, ◌++◌, map, length, get_or, take, drop, replicate, refl, sym, ap, ap₂, subst, ◌∙◌, arith, ext_get_or, zero-add}
use Rattle.std.proofs.lemmas.List.{length-replicate, get_or-replicate, take_more, take_all, take-append-drop, drop-drop, length-drop, length-take-le}
use Rattle.std.proofs.Math.Seq.{take-append-add}
use Rattle.std.proofs.lemmas.List.Folds.{list_any-append}
use Rattle.std.proofs.lemmas.List.FromFn.{length-map-range_with_len, get_or-map-range_with_len}
use Rattle.std.proofs.lemmas.Simd.{length-zip2, get_or-zip2}
use Rattle.queryset_lanes.specs.Slots.{either, but_not}
use Rattle.changelog_set.specs.Sets.{has, some_has, union_of, entries, unchanged}

pub length-union_of : (sets : List (List Bool)) → length (union_of sets) ≡ 512
unfolding union_of
length-union_of sets = length-map-range_with_len (λ slot. some_has slot sets) 0 512

pub has-union_of : (sets : List (List Bool)) (slot : ℕ) → slot < 512 → has slot (union_of sets) ≡ some_has slot sets
unfolding union_of
has-union_of sets slot h = get_or-map-range_with_len (λ k. some_has k sets) 0 512 slot slot false h (zero-add slot)

pub has-unchanged : (sets : List (List Bool)) (i j slot : ℕ) → slot < 512 → has slot (unchanged sets i j) ≡ not (some_has slot (entries sets i j))
unfolding unchanged
has-unchanged sets i j slot h = get_or-map-range_with_len (λ k. not (some_has k (entries sets i j))) 0 512 slot slot false h (zero-add slot)

length-unchanged : (sets : List (List Bool)) (i j : ℕ) → length (unchanged sets i j) ≡ 512
unfolding unchanged
length-unchanged sets i j = length-map-range_with_len (λ k. not (some_has k (entries sets i j))) 0 512

-- a set is fixed by its 512 slots
same_slots : (xs ys : List Bool) → length xs ≡ 512 → length ys ≡ 512 → ((slot : ℕ) → slot < 512 → has slot xs ≡ has slot ys) → xs ≡ ys
same_slots xs ys long_xs long_ys each = ext_get_or false xs ys (long_xs ∙ sym long_ys) (λ slot h. each slot (omega (arith, long_xs)))

pub union_is : (sets : List (List Bool)) (xs : List Bool) → length xs ≡ 512 → ((slot : ℕ) → slot < 512 → has slot xs ≡ some_has slot sets) → xs ≡ union_of sets
union_is sets xs long each = same_slots xs (union_of sets) long (length-union_of sets) (λ slot h. each slot h ∙ sym (has-union_of sets slot h))

-- no set has no slot
pub union_of-none : replicate 512 false ≡ union_of []
union_of-none = union_is [] (replicate 512 false) (length-replicate 512 false) (λ slot h. get_or-replicate 512 slot false false h)

-- two unions make that of all their sets
pub either-union_of : (xs ys : List (List Bool)) → either (union_of xs) (union_of ys) ≡ union_of (xs ++ ys)
either-union_of xs ys =
    let a = union_of xs in
    let b = union_of ys in
    union_is (xs ++ ys) (either a b) (length-zip2 (λ x y. x || y) a b (length-union_of xs ∙ sym (length-union_of ys)) ∙ length-union_of xs) (λ slot h.
    let in_a : slot < length a = omega (arith, h, length-union_of xs) in
    let in_b : slot < length b = omega (arith, h, length-union_of ys) in
    get_or-zip2 (λ x y. x || y) a b slot false false false in_a in_b
    ∙ ap₂ (λ x y. x || y) (has-union_of xs slot h) (has-union_of ys slot h)
    ∙ sym (list_any-append (λ set. has slot set) xs ys))

-- one set is its own union
union_of-one : (set : List Bool) → length set ≡ 512 → set ≡ union_of (set ∷ [])
union_of-one set long = union_is (set ∷ []) set long (λ slot h. or_none (has slot set))
  where
    or_none : (b : Bool) → b ≡ (b || false)
    or_none true = refl
    or_none false = refl

-- one set more
pub either-set : (union : List Bool) (sets : List (List Bool)) (set : List Bool) → length set ≡ 512 → union ≡ union_of sets → either union set ≡ union_of (sets ++ set ∷ [])
either-set union sets set long is = ap₂ either is (union_of-one set long) ∙ either-union_of sets (set ∷ [])

-- what the first union leaves of all slots
pub but_not-union_of : (sets : List (List Bool)) (i j : ℕ) → but_not (replicate 512 true) (union_of (entries sets i j)) ≡ unchanged sets i j
but_not-union_of sets i j =
    let all : List Bool = replicate 512 true in
    let gone : List Bool = union_of (entries sets i j) in
    let long : length all ≡ 512 = length-replicate 512 true in
    let gone_long : length gone ≡ 512 = length-union_of (entries sets i j) in
    same_slots (but_not all gone) (unchanged sets i j) (length-zip2 (λ x y. x && not y) all gone (long ∙ sym gone_long) ∙ long) (length-unchanged sets i j) (λ slot h.
    let in_all : slot < length all = omega (arith, h, long) in
    let in_gone : slot < length gone = omega (arith, h, gone_long) in
    get_or-zip2 (λ x y. x && not y) all gone slot false false false in_all in_gone
    ∙ ap₂ (λ x y. x && not y) (get_or-replicate 512 slot true false h) (has-union_of (entries sets i j) slot h)
    ∙ sym (has-unchanged sets i j slot h))

-- entries on both sides of a place between
pub entries-split : (sets : List (List Bool)) (i m j : ℕ) → i ≤ m → m ≤ j → j ≤ length sets → entries sets i m ++ entries sets m j ≡ entries sets i j
entries-split sets i m j first second within =
    let ys = drop i sets in
    let a : ℕ = m - i in
    let left : length ys ≡ length sets - i = length-drop i sets in
    let long : length (take a ys) ≡ a = length-take-le a ys (omega (arith, first, second, within, left)) in
    let here : i + a ≡ m = omega (arith, first) in
    let all : length (take a ys) + (j - m) ≡ j - i = omega (arith, first, second, long) in
    ap (λ zs. take a ys ++ take (j - m) zs) (ap (λ n. drop n sets) (sym here) ∙ sym (drop-drop a i sets))
    ∙ sym (take-append-add (take a ys) (drop a ys) (j - m))
    ∙ ap₂ (λ n zs. take n zs) all (take-append-drop a ys)

-- the step of a walk
pub union_of-more : (sets : List (List Bool)) (place : ℕ) (union set more : List Bool) → place < length sets → set ≡ get_or sets place set → length set ≡ 512 → union ≡ union_of (take place sets)
    → more ≡ either union set → more ≡ union_of (take (place + 1) sets)
union_of-more sets place union set more h set_is long is more_is =
    more_is ∙ either-set union (take place sets) set long is ∙ ap union_of (ap (λ s. take place sets ++ s ∷ []) set_is ∙ sym (take_more sets place set h))

pub ruleset walk = (union_of-none, take_all)

pub ruleset one_more = (either-set)

pub ruleset left = (but_not-union_of)
