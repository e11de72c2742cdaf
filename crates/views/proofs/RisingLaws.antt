-- Numbers that rise, each once: what is put among them, what a filter leaves, and how a rising list splits.
use Rattle.std.proofs.Common.{◌≡◌, ℕ, ◌+◌, ◌≤◌, ◌<◌, nat_lt, nat_le, eqb, Bool, true, false, not, cond, ◌&&◌, ◌||◌, List, [], ◌∷◌, ◌++◌, refl, sym, ap, ap₂, ◌∙◌, zero, suc, true≢false, arith}
use Rattle.std.specs.List.{filter, list_any, range_with_len, AllByRecursion}
use Rattle.std.specs.List.Sorted.{IsStrictlyIncreasing, IsStrictlySortedBy}
use Rattle.std.specs.Ordering.{nat_cmp}
use Rattle.std.specs.declared.cmp.Ordering.TheVariants.{Less, Equal, Greater}
use Rattle.std.proofs.lemmas.Bool.{lt-ltb, ltb-true, eqb-true, and_right, false_from_ne_true}
use Rattle.std.proofs.lemmas.Bool.Decides.{nat_tests}
use Rattle.std.proofs.lemmas.Map.Keys.{IsStrictlyIncreasing-from_sorted}
use Rattle.views.specs.Passed.{put_once, rising_once}
use Rattle.views.proofs.ListLaws.{All-by, All-filter, filter-same, filter-none}

-- each number is below all later ones
abbrev pub Rises : List ℕ → Type 0
Rises [] = Unit {0}
Rises (k ∷ ks) = AllByRecursion (λ j. k < j) ks × Rises ks

sorted-Rises : (ks : List ℕ) → Rises ks → IsStrictlySortedBy nat_cmp ks
unfolding IsStrictlySortedBy
sorted-Rises [] h = tt
sorted-Rises (k ∷ ks) h = (All-by (λ j. k < j) (λ j. nat_cmp k j ≡ Less) (λ j low. ap (λ b. cond b Less (cond (eqb k j) Equal Greater)) (lt-ltb k j low)) ks h.0, sorted-Rises ks h.1)

pub Rises-strictly : (ks : List ℕ) → Rises ks → IsStrictlyIncreasing ks
Rises-strictly ks h = IsStrictlyIncreasing-from_sorted ks (sorted-Rises ks h)

pub Rises-filter : (p : ℕ → Bool) (ks : List ℕ) → Rises ks → Rises (filter p ks)
Rises-filter p [] h = tt
Rises-filter p (k ∷ ks) h = go (p k) (Rises-filter p ks h.1)
  where
    go : (b : Bool) → Rises (filter p ks) → Rises (cond b (k ∷ filter p ks) (filter p ks))
    go true rest = (All-filter (λ j. k < j) p ks h.0, rest)
    go false rest = rest

-- what holds of the number and of each of the others
pub All-put_once : (P : ℕ → Type 0) (k : ℕ) (js : List ℕ) → P k → AllByRecursion P js → AllByRecursion P (put_once k js)
All-put_once P k [] here h = (here, tt)
All-put_once P k (j ∷ js) here h = go (nat_lt k j) (eqb k j) (All-put_once P k js here h.1)
  where
    go : (low same : Bool) → AllByRecursion P (put_once k js) → AllByRecursion P (cond low (k ∷ j ∷ js) (cond same (j ∷ js) (j ∷ put_once k js)))
    go true same rest = (here, h)
    go false true rest = h
    go false false rest = (h.0, rest)

above : (k j : ℕ) → nat_lt k j ≡ false → eqb k j ≡ false → j < k
above k j low same = grind (arith, nat_tests)

pub Rises-put_once : (k : ℕ) (js : List ℕ) → Rises js → Rises (put_once k js)
Rises-put_once k [] h = (tt, tt)
Rises-put_once k (j ∷ js) h = go (nat_lt k j) (eqb k j) refl refl (Rises-put_once k js h.1)
  where
    go : (low same : Bool) → nat_lt k j ≡ low → eqb k j ≡ same → Rises (put_once k js) → Rises (cond low (k ∷ j ∷ js) (cond same (j ∷ js) (j ∷ put_once k js)))
    go true same e f rest = let first = ltb-true k j e in ((first, All-by (λ i. j < i) (λ i. k < i) (λ i later. omega (arith, first, later)) js h.0), h)
    go false true e f rest = h
    go false false e f rest = (All-put_once (λ i. j < i) k js (above k j e f) h.0, rest)

pub Rises-rising_once : (ks : List ℕ) → Rises (rising_once ks)
Rises-rising_once [] = tt
Rises-rising_once (k ∷ ks) = Rises-put_once k (rising_once ks) (Rises-rising_once ks)

-- ---- which numbers are among them

pub or_swap : (a b c : Bool) → (a || (b || c)) ≡ (b || (a || c))
or_swap true true c = refl
or_swap true false c = refl
or_swap false true c = refl
or_swap false false c = refl

pub or_twice : (a c : Bool) → (a || c) ≡ (a || (a || c))
or_twice true c = refl
or_twice false c = refl

pub list_any-put_once : (q : ℕ → Bool) (k : ℕ) (js : List ℕ) → list_any q (put_once k js) ≡ (q k || list_any q js)
list_any-put_once q k [] = refl
list_any-put_once q k (j ∷ js) = go (nat_lt k j) (eqb k j) refl (list_any-put_once q k js)
  where
    go : (low same : Bool) → eqb k j ≡ same → list_any q (put_once k js) ≡ (q k || list_any q js)
        → list_any q (cond low (k ∷ j ∷ js) (cond same (j ∷ js) (j ∷ put_once k js))) ≡ (q k || (q j || list_any q js))
    go true same e rest = refl
    go false true e rest = or_twice (q j) (list_any q js) ∙ ap (λ i. q i || (q j || list_any q js)) (sym (eqb-true k j e))
    go false false e rest = ap (λ b. q j || b) rest ∙ or_swap (q j) (q k) (list_any q js)

pub list_any-rising_once : (q : ℕ → Bool) (ks : List ℕ) → list_any q (rising_once ks) ≡ list_any q ks
list_any-rising_once q [] = refl
list_any-rising_once q (k ∷ ks) = list_any-put_once q k (rising_once ks) ∙ ap (λ b. q k || b) (list_any-rising_once q ks)

next_among : (a n k : ℕ) → (eqb a k || (nat_le (a + 1) k && nat_lt k ((a + 1) + n))) ≡ (nat_le a k && nat_lt k (a + suc n))
next_among a n k = grind (arith, nat_tests)

none_among : (a k : ℕ) → false ≡ (nat_le a k && nat_lt k (a + 0))
none_among a k = grind (arith, nat_tests)

-- a number is in a range just where it lies between its ends
pub list_any-range : (k a n : ℕ) → list_any (λ j. eqb j k) (range_with_len a n) ≡ (nat_le a k && nat_lt k (a + n))
list_any-range k a zero = none_among a k
list_any-range k a (suc n) = ap (λ b. eqb a k || b) (list_any-range k (a + 1) n) ∙ next_among a n k

-- ---- filters

put_once-first : (k : ℕ) (js : List ℕ) → AllByRecursion (λ j. k < j) js → put_once k js ≡ k ∷ js
put_once-first k [] h = refl
put_once-first k (j ∷ js) h = ap (λ b. cond b (k ∷ j ∷ js) (cond (eqb k j) (j ∷ js) (j ∷ put_once k js))) (lt-ltb k j h.0)

-- what a filter leaves of a number put among others
pub filter-put_once : (p : ℕ → Bool) (k : ℕ) (js : List ℕ) → Rises js → filter p (put_once k js) ≡ cond (p k) (put_once k (filter p js)) (filter p js)
filter-put_once p k [] h = refl
filter-put_once p k (j ∷ js) h = go (nat_lt k j) (eqb k j) refl refl (filter-put_once p k js h.1)
  where
    at_same : (d : Bool) → nat_lt k j ≡ false → eqb k j ≡ true
        → cond d (j ∷ filter p js) (filter p js) ≡ cond d (put_once k (cond d (j ∷ filter p js) (filter p js))) (cond d (j ∷ filter p js) (filter p js))
    at_same true e f = sym (ap₂ (λ a b. cond a (k ∷ j ∷ filter p js) (cond b (j ∷ filter p js) (j ∷ put_once k (filter p js)))) e f)
    at_same false e f = refl

    at_rest : (c d : Bool) → nat_lt k j ≡ false → eqb k j ≡ false
        → cond d (j ∷ cond c (put_once k (filter p js)) (filter p js)) (cond c (put_once k (filter p js)) (filter p js)) ≡ cond c (put_once k (cond d (j ∷ filter p js) (filter p js))) (cond d (j ∷ filter p js) (filter p js))
    at_rest true true e f = sym (ap₂ (λ a b. cond a (k ∷ j ∷ filter p js) (cond b (j ∷ filter p js) (j ∷ put_once k (filter p js)))) e f)
    at_rest true false e f = refl
    at_rest false true e f = refl
    at_rest false false e f = refl

    go : (low same : Bool) → nat_lt k j ≡ low → eqb k j ≡ same → filter p (put_once k js) ≡ cond (p k) (put_once k (filter p js)) (filter p js)
        → filter p (cond low (k ∷ j ∷ js) (cond same (j ∷ js) (j ∷ put_once k js))) ≡ cond (p k) (put_once k (filter p (j ∷ js))) (filter p (j ∷ js))
    go true same e f rest =
        let first = ltb-true k j e in
        ap (λ l. cond (p k) l (filter p (j ∷ js))) (sym (put_once-first k (filter p (j ∷ js)) (All-filter (λ i. k < i) p (j ∷ js) (first, All-by (λ i. j < i) (λ i. k < i) (λ i later. omega (arith, first, later)) js h.0))))
    go false true e f rest = at_same (p j) e f ∙ sym (ap (λ c. cond c (put_once k (filter p (j ∷ js))) (filter p (j ∷ js))) (ap p (eqb-true k j f)))
    go false false e f rest = ap (λ l. cond (p j) (j ∷ l) l) rest ∙ at_rest (p k) (p j) e f

-- what a filter leaves of rising numbers are those that it leaves of the numbers
pub filter-rising_once : (p : ℕ → Bool) (ks : List ℕ) → filter p (rising_once ks) ≡ rising_once (filter p ks)
filter-rising_once p [] = refl
filter-rising_once p (k ∷ ks) =
    filter-put_once p k (rising_once ks) (Rises-rising_once ks)
    ∙ ap (λ l. cond (p k) (put_once k l) l) (filter-rising_once p ks)
    ∙ go (p k)
  where
    go : (b : Bool) → cond b (put_once k (rising_once (filter p ks))) (rising_once (filter p ks)) ≡ rising_once (cond b (k ∷ filter p ks) (filter p ks))
    go true = refl
    go false = refl

and_true : (b : Bool) → (b && true) ≡ b
and_true true = refl
and_true false = refl

-- Where a test passes with a number all lower ones, and another test passes all that it does: of rising numbers the other
-- passes those that the first does, and then those that the other alone does.
pub filter-later : (p q : ℕ → Bool) → ((j k : ℕ) → j ≤ k → p k ≡ true → p j ≡ true) → ((k : ℕ) → p k ≡ true → q k ≡ true) → (ks : List ℕ) → Rises ks
    → filter q ks ≡ filter p ks ++ filter (λ k. q k && not (p k)) ks
filter-later p q down up [] h = refl
filter-later p q down up (k ∷ ks) h = go (p k) refl (filter-later p q down up ks h.1)
  where
    go : (b : Bool) → p k ≡ b → filter q ks ≡ filter p ks ++ filter (λ j. q j && not (p j)) ks
        → cond (q k) (k ∷ filter q ks) (filter q ks) ≡ cond b (k ∷ filter p ks) (filter p ks) ++ cond (q k && not b) (k ∷ filter (λ j. q j && not (p j)) ks) (filter (λ j. q j && not (p j)) ks)
    go true e rest =
        ap (λ c. cond c (k ∷ filter q ks) (filter q ks)) (up k e)
        ∙ ap (λ l. k ∷ l) rest
        ∙ ap (λ c. k ∷ (filter p ks ++ cond c (k ∷ filter (λ j. q j && not (p j)) ks) (filter (λ j. q j && not (p j)) ks))) (sym (and_right (q k) false refl))
    go false e rest =
        let later = All-by (λ j. k < j) (λ j. p j ≡ false) (λ j low. false_from_ne_true (p j) (λ passes. true≢false (sym (down k j (omega (arith, low)) passes) ∙ e))) ks h.0 in
        let rest_same = filter-same (λ j. q j && not (p j)) q ks (All-by (λ j. p j ≡ false) (λ j. (q j && not (p j)) ≡ q j) (λ j f. ap (λ b. q j && not b) f ∙ and_true (q j)) ks later) in
        sym (ap (λ l. l ++ cond (q k && true) (k ∷ filter (λ j. q j && not (p j)) ks) (filter (λ j. q j && not (p j)) ks)) (filter-none p ks later)
        ∙ ap (λ l. cond (q k && true) (k ∷ l) l) rest_same
        ∙ ap (λ b. cond b (k ∷ filter q ks) (filter q ks)) (and_true (q k)))
