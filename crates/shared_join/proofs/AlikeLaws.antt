-- The pairs that are found are alike to those that are wanted, whichever of the two slices is walked.
use Rattle.std.proofs.Common.{◌≡◌, ℕ, ℤ, ◌+◌, ◌&&◌, Bool, true, false, cond, List, [], ◌∷◌, map, refl, sym, ap, ap₂, ◌∙◌, arith}
use Rattle.std.specs.List.{filter, flat_map, sum_by, count_by}
use Rattle.std.specs.Ordering.{int_eq}
use Rattle.std.proofs.lemmas.Int.{ints}
use Rattle.std.proofs.lemmas.List.Sums.{sum_by-cons, sum_by-append}
use Rattle.queryset_lanes.specs.Slots.{both, has_slot}
use Rattle.slice_store.specs.Placed.{Placed}
use Rattle.shared_join.specs.declared.pair.Pair.{Pair}
use Rattle.shared_join.specs.Wanted.{pair, keys_meet, is_kept, wanted_with, wanted, AreAlike}
use Rattle.shared_join.specs.Found.{masked, kept_pair, found_with, found, turned_pair}

-- ---- sets

and-comm : (a b : Bool) → (a && b) ≡ (b && a)
and-comm true true = refl
and-comm true false = refl
and-comm false true = refl
and-comm false false = refl

and-turn : (a b c : Bool) → ((a && c) && b) ≡ ((a && b) && c)
and-turn true b c = and-comm c b
and-turn false b c = refl

both-comm : (a b : List Bool) → both a b ≡ both b a
both-comm [] [] = refl
both-comm [] (y ∷ b) = refl
both-comm (x ∷ a) [] = refl
both-comm (x ∷ a) (y ∷ b) = ap₂ (λ h (l : List Bool). h ∷ l) (and-comm x y) (both-comm a b)

-- a mask may come first
both-turn : (a b u : List Bool) → both (both a u) b ≡ both (both a b) u
both-turn [] b u = refl
both-turn (x ∷ a) [] [] = refl
both-turn (x ∷ a) [] (z ∷ u) = refl
both-turn (x ∷ a) (y ∷ b) [] = refl
both-turn (x ∷ a) (y ∷ b) (z ∷ u) = ap₂ (λ h (l : List Bool). h ∷ l) (and-turn x y z) (both-turn a b u)

-- ---- sums

pub sum_by-same : {X : Type 0} (f g : X → ℕ) → ((x : X) → f x ≡ g x) → (xs : List X) → sum_by f xs ≡ sum_by g xs
sum_by-same f g h [] = refl
sum_by-same f g h (x ∷ xs) = sum_by-cons f x xs ∙ ap₂ (λ a b. a + b) (h x) (sum_by-same f g h xs) ∙ sym (sum_by-cons g x xs)

pub sum_by-none : {X : Type 0} (xs : List X) → sum_by (λ _. 0) xs ≡ 0
sum_by-none [] = refl
sum_by-none (x ∷ xs) = sum_by-cons (λ _. 0) x xs ∙ omega (arith, sum_by-none xs)

sum_by-plus : {X : Type 0} (f g : X → ℕ) (xs : List X) → sum_by (λ x. f x + g x) xs ≡ sum_by f xs + sum_by g xs
sum_by-plus f g [] = refl
sum_by-plus f g (x ∷ xs) = omega (arith, sum_by-cons (λ x. f x + g x) x xs, sum_by-cons f x xs, sum_by-cons g x xs, sum_by-plus f g xs)

-- a double sum the other way round
sum_by-turn : {X Y : Type 0} (f : X → Y → ℕ) (xs : List X) (ys : List Y) → sum_by (λ x. sum_by (f x) ys) xs ≡ sum_by (λ y. sum_by (λ x. f x y) xs) ys
sum_by-turn f [] ys = sym (sum_by-none ys)
sum_by-turn f (x ∷ xs) ys =
    sum_by-cons (λ x. sum_by (f x) ys) x xs
    ∙ ap (λ n. sum_by (f x) ys + n) (sum_by-turn f xs ys)
    ∙ sym (sum_by-plus (f x) (λ y. sum_by (λ x. f x y) xs) ys)
    ∙ sum_by-same (λ y. f x y + sum_by (λ x. f x y) xs) (λ y. sum_by (λ x. f x y) (x ∷ xs)) (λ y. sym (sum_by-cons (λ x. f x y) x xs)) ys

pub sum_by-flat_map : {X Y : Type 0} (g : Y → ℕ) (f : X → List Y) (xs : List X) → sum_by g (flat_map f xs) ≡ sum_by (λ x. sum_by g (f x)) xs
sum_by-flat_map g f [] = refl
sum_by-flat_map g f (x ∷ xs) =
    sum_by-append g (f x) (flat_map f xs) ∙ ap (λ n. sum_by g (f x) + n) (sum_by-flat_map g f xs) ∙ sym (sum_by-cons (λ x. sum_by g (f x)) x xs)

count_by-flat_map : {X Y : Type 0} (p : Y → Bool) (f : X → List Y) (xs : List X) → count_by p (flat_map f xs) ≡ sum_by (λ x. count_by p (f x)) xs
count_by-flat_map p f xs = sum_by-flat_map (λ y. cond (p y) 1 0) f xs

-- ---- pairs

-- what a pair counts, if it is there
abbrev cell : (Pair → Bool) → List Bool → Placed → Placed → ℕ
cell test u p q = cond (keys_meet p q) (cond (is_kept (pair u p q)) (cond (test (pair u p q)) 1 0) 0) 0

count-wanted_with : (test : Pair → Bool) (u : List Bool) (p : Placed) (qs : List Placed) → count_by test (wanted_with qs u p) ≡ sum_by (cell test u p) qs
count-wanted_with test u p [] = refl
count-wanted_with test u p (q ∷ qs) = go (keys_meet p q) (count-wanted_with test u p qs) ∙ sym (sum_by-cons (cell test u p) q qs)
  where
    at : Pair
    at = pair u p q

    rest : List Pair
    rest = wanted_with qs u p

    inner : (b : Bool) → count_by test (cond b (at ∷ rest) rest) ≡ cond b (cond (test at) 1 0) 0 + count_by test rest
    inner true = sum_by-cons (λ r. cond (test r) 1 0) at rest
    inner false = omega arith

    go : (b : Bool) → count_by test rest ≡ sum_by (cell test u p) qs
        → count_by test (filter is_kept (map (pair u p) (cond b (q ∷ filter (keys_meet p) qs) (filter (keys_meet p) qs))))
        ≡ cond b (cond (is_kept at) (cond (test at) 1 0) 0) 0 + sum_by (cell test u p) qs
    go true e = inner (is_kept at) ∙ ap (λ n. cond (is_kept at) (cond (test at) 1 0) 0 + n) e
    go false e = omega (arith, e)

count-wanted : (test : Pair → Bool) (u : List Bool) (ps qs : List Placed) → count_by test (wanted ps qs u) ≡ sum_by (λ p. sum_by (cell test u p) qs) ps
unfolding wanted
count-wanted test u ps qs =
    count_by-flat_map test (wanted_with qs u) ps ∙ sum_by-same (λ p. count_by test (wanted_with qs u p)) (λ p. sum_by (cell test u p) qs) (λ p. count-wanted_with test u p qs) ps

-- one pair, in a list or not
count-one : (a b : Bool) (test : Pair → Bool) (x : Pair) → count_by test (cond (a && b) (x ∷ []) []) ≡ cond a (cond b (cond (test x) 1 0) 0) 0
count-one true true test x = sum_by-cons (λ r. cond (test r) 1 0) x [] ∙ omega arith
count-one true false test x = refl
count-one false b test x = refl

at-left : (test : Pair → Bool) (u : List Bool) (p q : Placed) → count_by test (kept_pair false (masked u p) q) ≡ cell test u p q
at-left test u p q =
    count-one (keys_meet p q) (has_slot (both (both p.set u) q.set)) test (turned_pair false p.accepted q.accepted (both (both p.set u) q.set))
    ∙ ap (λ s. cond (keys_meet p q) (cond (has_slot s) (cond (test (turned_pair false p.accepted q.accepted s)) 1 0) 0) 0) (both-turn p.set q.set u)

key-turn : (x y : ℤ) → int_eq x y ≡ int_eq y x
key-turn x y = grind (arith, ints)

at-right : (test : Pair → Bool) (u : List Bool) (q p : Placed) → count_by test (kept_pair true (masked u q) p) ≡ cell test u p q
at-right test u q p =
    count-one (keys_meet q p) (has_slot (both (both q.set u) p.set)) test (turned_pair true q.accepted p.accepted (both (both q.set u) p.set))
    ∙ ap₂ (λ k s. cond k (cond (has_slot s) (cond (test (turned_pair true q.accepted p.accepted s)) 1 0) 0) 0) (key-turn q.accepted.given.key p.accepted.given.key)
    (both-turn q.set p.set u ∙ ap (λ s. both s u) (both-comm q.set p.set))

count-found : (test : Pair → Bool) (turned : Bool) (u : List Bool) (ones others : List Placed)
    → count_by test (found turned u ones others) ≡ sum_by (λ p. sum_by (λ q. count_by test (kept_pair turned (masked u p) q)) others) ones
count-found test turned u ones others =
    count_by-flat_map test (found_with turned u others) ones
    ∙ sum_by-same (λ p. count_by test (found_with turned u others p)) (λ p. sum_by (λ q. count_by test (kept_pair turned (masked u p) q)) others)
    (λ p. count_by-flat_map test (kept_pair turned (masked u p)) others) ones

-- the left records are walked
pub found-left : (u : List Bool) (ps qs : List Placed) → AreAlike (found false u ps qs) (wanted ps qs u)
found-left u ps qs test =
    count-found test false u ps qs
    ∙ sum_by-same (λ p. sum_by (λ q. count_by test (kept_pair false (masked u p) q)) qs) (λ p. sum_by (cell test u p) qs)
    (λ p. sum_by-same (λ q. count_by test (kept_pair false (masked u p) q)) (cell test u p) (at-left test u p) qs) ps
    ∙ sym (count-wanted test u ps qs)

-- the right ones are
pub found-right : (u : List Bool) (ps qs : List Placed) → AreAlike (found true u qs ps) (wanted ps qs u)
found-right u ps qs test =
    count-found test true u qs ps
    ∙ sum_by-same (λ q. sum_by (λ p. count_by test (kept_pair true (masked u q) p)) ps) (λ q. sum_by (λ p. cell test u p q) ps)
    (λ q. sum_by-same (λ p. count_by test (kept_pair true (masked u q) p)) (λ p. cell test u p q) (at-right test u q) ps) qs
    ∙ sym (sum_by-turn (cell test u) ps qs)
    ∙ sym (count-wanted test u ps qs)
