-- What a stable sort gives: a list in order is one list alone, once it is known for each element which ones tie with it.
use Rattle.std.proofs.Common.{◌≡◌, ℕ, ◌≤◌, ◌<◌, Bool, true, false, not, cond, ◌&&◌, List, [], ◌∷◌, length, get_or, drop, zero, suc, refl, sym, ap, ◌∙◌, true≢false, arith, ◌+◌}
use Rattle.std.specs.Cmp.{IsStrictWeakOrder}
use Rattle.std.specs.List.{filter, AllByRecursion}
use Rattle.std.specs.List.Sorted.{IsSortedBy, ties}
use Rattle.std.proofs.lemmas.List.Elements.{All-from_recursion, recursion_from_All}
use Rattle.std.proofs.lemmas.List.Sorted.{sorted_far}
use Rattle.views.proofs.ListLaws.{All-by, All-filter, filter-none}

-- no element is below an earlier one
abbrev pub NeverFallsBy : {X : Type 0} → (X → X → Bool) → List X → Type 0
NeverFallsBy lt [] = Unit {0}
NeverFallsBy lt (x ∷ xs) = AllByRecursion (λ y. lt y x ≡ false) xs × NeverFallsBy lt xs

-- ---- in order

from_far : {X : Type 0} (lt : X → X → Bool) (xs : List X) → ((i j : ℕ) (d : X) → i ≤ j → j < length xs → lt (get_or xs j d) (get_or xs i d) ≡ false) → NeverFallsBy lt xs
from_far lt [] h = tt
from_far lt (x ∷ xs) h = (
  recursion_from_All (λ y. lt y x ≡ false) xs (λ k d within. h 0 (suc k) d (omega arith) (omega (arith, within))),
  from_far lt xs (λ i j d le within. h (suc i) (suc j) d (omega (arith, le)) (omega (arith, within))),
)

pub NeverFallsBy-from_sorted : {X : Type 0} (lt : X → X → Bool) → IsStrictWeakOrder lt → (xs : List X) → IsSortedBy lt xs → NeverFallsBy lt xs
NeverFallsBy-from_sorted lt o xs h = from_far lt xs (sorted_far lt o xs h)

-- an element that is further on, and not only the next
far : {X : Type 0} (lt : X → X → Bool) (xs : List X) → NeverFallsBy lt xs → (i j : ℕ) (d : X) → i < j → j < length xs → lt (get_or xs j d) (get_or xs i d) ≡ false
far lt [] h i j d low within = absurd (omega (arith, within))
far lt (x ∷ xs) h i zero d low within = absurd (omega (arith, low))
far lt (x ∷ xs) h zero (suc j) d low within = All-from_recursion (λ y. lt y x ≡ false) xs h.0 j d (omega (arith, within))
far lt (x ∷ xs) h (suc i) (suc j) d low within = far lt xs h.1 i j d (omega (arith, low)) (omega (arith, within))

pub sorted_from_NeverFallsBy : {X : Type 0} (lt : X → X → Bool) (xs : List X) → NeverFallsBy lt xs → IsSortedBy lt xs
sorted_from_NeverFallsBy lt xs h = λ k d low within. far lt xs h k (k + 1) d (omega arith) within

-- a filter keeps the order
pub NeverFallsBy-filter : {X : Type 0} (lt : X → X → Bool) (p : X → Bool) (xs : List X) → NeverFallsBy lt xs → NeverFallsBy lt (filter p xs)
NeverFallsBy-filter lt p [] h = tt
NeverFallsBy-filter lt p (x ∷ xs) h = go (p x) (NeverFallsBy-filter lt p xs h.1)
  where
    go : (b : Bool) → NeverFallsBy lt (filter p xs) → NeverFallsBy lt (cond b (x ∷ filter p xs) (filter p xs))
    go true rest = (All-filter (λ y. lt y x ≡ false) p xs h.0, rest)
    go false rest = rest

-- ---- ties

irreflexive : {X : Type 0} (lt : X → X → Bool) → IsStrictWeakOrder lt → (x : X) → lt x x ≡ false
irreflexive lt o x = go (lt x x) refl
  where
    go : (b : Bool) → lt x x ≡ b → b ≡ false
    go true e = sym e ∙ o.one_way x x e
    go false e = refl

ties_itself : {X : Type 0} (lt : X → X → Bool) → IsStrictWeakOrder lt → (x : X) → ties lt x x ≡ true
ties_itself lt o x = ap (λ b. not b && not b) (irreflexive lt o x)

-- what ties with an element is not below another that does
pub tied_apart : {X : Type 0} (lt : X → X → Bool) → IsStrictWeakOrder lt → (x y z : X) → ties lt x y ≡ true → ties lt x z ≡ true → lt y z ≡ false
tied_apart lt o x y z e f = go (lt x y) (lt y x) (lt x z) refl refl refl e f
  where
    go : (a b c : Bool) → lt x y ≡ a → lt y x ≡ b → lt x z ≡ c → (not a && not b) ≡ true → (not c && not (lt z x)) ≡ true → lt y z ≡ false
    go false false false p q r e f = o.chain y x z q r
    go true b c p q r e f = absurd (true≢false (sym e))
    go false true c p q r e f = absurd (true≢false (sym e))
    go false false true p q r e f = absurd (true≢false (sym f))

-- what is not below an element above x does not tie with x
above_tie : {X : Type 0} (lt : X → X → Bool) → IsStrictWeakOrder lt → (x y z : X) → lt x y ≡ true → lt z y ≡ false → ties lt x z ≡ false
above_tie lt o x y z low up = go (lt x z) refl
  where
    go : (b : Bool) → lt x z ≡ b → (not b && not (lt z x)) ≡ false
    go true e = refl
    go false e = absurd (true≢false (sym low ∙ o.chain x z y e up))

-- what is below the first ties with none
none_tie : {X : Type 0} (lt : X → X → Bool) → IsStrictWeakOrder lt → (x y : X) (ys : List X) → lt x y ≡ true → NeverFallsBy lt (y ∷ ys) → filter (ties lt x) (y ∷ ys) ≡ []
none_tie lt o x y ys low h =
    filter-none (ties lt x) (y ∷ ys) (above_tie lt o x y y low (irreflexive lt o y), All-by (λ z. lt z y ≡ false) (λ z. ties lt x z ≡ false) (λ z up. above_tie lt o x y z low up) ys h.0)

-- ---- two lists

-- what ties with the first element
ties-first : {X : Type 0} (lt : X → X → Bool) → IsStrictWeakOrder lt → (x : X) (xs : List X) → filter (ties lt x) (x ∷ xs) ≡ x ∷ filter (ties lt x) xs
ties-first lt o x xs = ap (λ b. cond b (x ∷ filter (ties lt x) xs) (filter (ties lt x) xs)) (ties_itself lt o x)

not_none : {X : Type 0} (x : X) (xs : List X) → ¬ (x ∷ xs ≡ [])
not_none x xs e = cc

-- lists that are the same with one more element in front of both, if it is kept
rest_same : {X : Type 0} (b : Bool) (x : X) (xs ys : List X) → cond b (x ∷ xs) xs ≡ cond b (x ∷ ys) ys → xs ≡ ys
rest_same true x xs ys e = ap (λ l. drop 1 l) e
rest_same false x xs ys e = e

-- the first elements are the same
first_same : {X : Type 0} (lt : X → X → Bool) → IsStrictWeakOrder lt → (x y : X) (xs ys : List X) → NeverFallsBy lt (x ∷ xs) → NeverFallsBy lt (y ∷ ys) → ((z : X) → filter (ties lt z) (x ∷ xs) ≡ filter (ties lt z) (y ∷ ys)) → x ≡ y
first_same lt o x y xs ys h k same = go (lt x y) (lt y x) refl refl
  where
    go : (a b : Bool) → lt x y ≡ a → lt y x ≡ b → x ≡ y
    go true b e f = absurd (not_none x (filter (ties lt x) xs) (sym (ties-first lt o x xs) ∙ same x ∙ none_tie lt o x y ys e k))
    go false true e f = absurd (not_none y (filter (ties lt y) ys) (sym (ties-first lt o y ys) ∙ sym (same y) ∙ none_tie lt o y x xs f h))
    go false false e f =
        let tie : ties lt x y ≡ true = ap (λ b. not b && not (lt y x)) e ∙ ap not f in
        ap (λ l. get_or l 0 x) (sym (ties-first lt o x xs) ∙ same x ∙ ap (λ b. cond b (y ∷ filter (ties lt x) ys) (filter (ties lt x) ys)) tie)

-- Two lists in order are the same where for each element the same ones tie with it, in the same order.
pub same_by_ties : {X : Type 0} (lt : X → X → Bool) → IsStrictWeakOrder lt → (xs ys : List X) → NeverFallsBy lt xs → NeverFallsBy lt ys → ((z : X) → filter (ties lt z) xs ≡ filter (ties lt z) ys) → xs ≡ ys
same_by_ties lt o [] [] h k same = refl
same_by_ties lt o [] (y ∷ ys) h k same = absurd (not_none y (filter (ties lt y) ys) (sym (ties-first lt o y ys) ∙ sym (same y)))
same_by_ties lt o (x ∷ xs) [] h k same = absurd (not_none x (filter (ties lt x) xs) (sym (ties-first lt o x xs) ∙ same x))
same_by_ties lt o (x ∷ xs) (y ∷ ys) h k same =
    let first = first_same lt o x y xs ys h k same in
    let rest = same_by_ties lt o xs ys h.1 k.1 (λ z. rest_same (ties lt z x) x (filter (ties lt z) xs) (filter (ties lt z) ys) (same z ∙ ap (λ v. cond (ties lt z v) (v ∷ filter (ties lt z) ys) (filter (ties lt z) ys)) (sym first))) in
    ap (λ v. v ∷ xs) first ∙ ap (λ l. y ∷ l) rest
