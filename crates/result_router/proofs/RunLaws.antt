-- Fragments taken by a number of theirs: those with the least number first, and whatever the order in which others stand.
use Rattle.std.proofs.Common.{◌≡◌, ℕ, ◌≤◌, ◌<◌, nat_lt, nat_le, eqb, Bool, true, false, true≢false, not, cond, ◌||◌, List, [], ◌∷◌, ◌++◌, map, refl, sym, ap, subst, ◌∙◌, arith}
use Rattle.std.specs.List.{filter, flat_map, list_any, AllByRecursion}
use Rattle.std.proofs.lemmas.Bool.{lt-ltb, ltb-true, ltb-false, leb-true, eqb-true, eq-eqb, le-leb}
use Rattle.std.proofs.lemmas.Bool.Decides.{nat_tests}
use Rattle.as_base.specs.declared.fragment.Fragment.{Fragment}
use Rattle.views.specs.Passed.{put_once, rising_once}
use Rattle.views.proofs.ListLaws.{All-by, All-map, All-passed, flat_map-same, filter-same, filter-all, filter-map, filter-within, list_any-map}
use Rattle.views.proofs.RisingLaws.{Rises, All-put_once, Rises-rising_once, list_any-rising_once, filter-rising_once}
use Rattle.result_router.specs.Rising.{with_key, by_rising}

-- ---- the least number

-- the number is above k
abbrev pub above : ℕ → ℕ → Bool
above k j = not (nat_le j k)

up : (k i : ℕ) → k < i → above k i ≡ true
up k i low = grind (arith, nat_tests)

same_upto : (k i : ℕ) → k ≤ i → nat_le i k ≡ eqb i k
same_upto k i low = grind (arith, nat_tests)

not_above : (k i j : ℕ) → above k j ≡ true → eqb i j ≡ true → above k i ≡ true
not_above k i j high same = grind (arith, nat_tests)

-- a number that is put among others that are not below it is the first
put_once-least : (k : ℕ) (js : List ℕ) → AllByRecursion (λ j. k ≤ j) js → Rises js → put_once k js ≡ k ∷ filter (above k) js
put_once-least k [] low h = refl
put_once-least k (j ∷ js) low h = go (nat_lt k j) (eqb k j) refl refl
  where
    kept : filter (above k) js ≡ js
    kept = let first = low.0 in filter-all (above k) js (All-by (λ i. j < i) (λ i. above k i ≡ true) (λ i higher. up k i (omega (arith, first, higher))) js h.0)

    go : (lower same : Bool) → nat_lt k j ≡ lower → eqb k j ≡ same → cond lower (k ∷ j ∷ js) (cond same (j ∷ js) (j ∷ put_once k js)) ≡ k ∷ cond (above k j) (j ∷ filter (above k) js) (filter (above k) js)
    go true same e f = sym (ap (λ b. k ∷ cond b (j ∷ filter (above k) js) (filter (above k) js)) (up k j (ltb-true k j e)) ∙ ap (λ l. k ∷ j ∷ l) kept)
    go false true e f =
        let is = eqb-true k j f in
        ap (λ i. i ∷ js) (sym is)
        ∙ sym (ap (λ b. k ∷ cond (not b) (j ∷ filter (above k) js) (filter (above k) js)) (le-leb j k (omega (arith, is))) ∙ ap (λ l. k ∷ l) kept)
    go false false e f = let a = ltb-false k j e in let b = low.0 in absurd (true≢false (sym (eq-eqb k j (omega (arith, a, b))) ∙ f))

All-rising_once : (P : ℕ → Type 0) (ks : List ℕ) → AllByRecursion P ks → AllByRecursion P (rising_once ks)
All-rising_once P [] h = tt
All-rising_once P (k ∷ ks) h = All-put_once P k (rising_once ks) h.0 (All-rising_once P ks h.1)

rising_once-least : (k : ℕ) (ks : List ℕ) → AllByRecursion (λ j. k ≤ j) ks → rising_once (k ∷ ks) ≡ k ∷ rising_once (filter (above k) ks)
rising_once-least k ks low = put_once-least k (rising_once ks) (All-rising_once (λ j. k ≤ j) ks low) (Rises-rising_once ks) ∙ ap (λ l. k ∷ l) (filter-rising_once (above k) ks)

-- ---- fragments

-- those up to the least number are those that have it
pub upto-least : (key : Fragment → ℕ) (k : ℕ) (fs : List Fragment) → AllByRecursion (λ g. k ≤ key g) fs → filter (λ g. nat_le (key g) k) fs ≡ with_key key k fs
upto-least key k fs low = filter-same (λ g. nat_le (key g) k) (λ g. eqb (key g) k) fs (All-by (λ g. k ≤ key g) (λ g. nat_le (key g) k ≡ eqb (key g) k) (λ g le. same_upto k (key g) le) fs low)

pub first-made : {Y : Type 0} (key : Fragment → ℕ) (make : List Fragment → List Y) (f : Fragment) (fs : List Fragment) → AllByRecursion (λ g. key f ≤ key g) fs
    → by_rising key make (f ∷ fs) ≡ make (with_key key (key f) (f ∷ fs)) ++ by_rising key make (filter (λ g. above (key f) (key g)) (f ∷ fs))
first-made {Y} key make f fs low =
    ap (flat_map made) (rising_once-least k (map key fs) (All-map (λ j. k ≤ j) key fs low))
    ∙ ap (λ l. made k ++ l) (flat_map-same made later (rising_once (filter (above k) (map key fs))) each)
    ∙ ap (λ ks. made k ++ flat_map later (rising_once ks)) (filter-map (above k) key fs ∙ ap (map key) (sym rest))
  where
    k : ℕ
    k = key f

    made : ℕ → List Y
    made j = make (with_key key j (f ∷ fs))

    later : ℕ → List Y
    later j = make (with_key key j (filter (λ g. above k (key g)) (f ∷ fs)))

    each : AllByRecursion (λ j. made j ≡ later j) (rising_once (filter (above k) (map key fs)))
    each = All-by (λ j. above k j ≡ true) (λ j. made j ≡ later j)
        (λ j high. ap make (sym (filter-within (λ g. eqb (key g) j) (λ g. above k (key g)) (f ∷ fs) (λ g same. not_above k (key g) j high same))))
        (rising_once (filter (above k) (map key fs)))
        (All-rising_once (λ j. above k j ≡ true) (filter (above k) (map key fs)) (All-passed (above k) (map key fs)))

    rest : filter (λ g. above k (key g)) (f ∷ fs) ≡ filter (λ g. above k (key g)) fs
    rest = ap (λ b. cond (not b) (f ∷ filter (λ g. above k (key g)) fs) (filter (λ g. above k (key g)) fs)) (le-leb k k (omega arith))

-- ---- another order

none_below : (k i : ℕ) (js : List ℕ) → i ≤ k → AllByRecursion (λ j. k < j) js → list_any (λ j. eqb j i) js ≡ false
none_below k i [] le h = refl
none_below k i (j ∷ js) le h = ap (λ b. b || list_any (λ j. eqb j i) js) (apart j h.0) ∙ none_below k i js le h.1
  where
    apart : (j : ℕ) → k < j → eqb j i ≡ false
    apart j low = grind (arith, nat_tests, le)

-- rising numbers are the same where the same are among them
first_among : (k : ℕ) (ks : List ℕ) → list_any (λ j. eqb j k) (k ∷ ks) ≡ true
first_among k ks = ap (λ b. b || list_any (λ j. eqb j k) ks) (eq-eqb k k refl)

not_below : (k : ℕ) (ks : List ℕ) (j : ℕ) (js : List ℕ) → Rises (j ∷ js) → list_any (λ i. eqb i k) (k ∷ ks) ≡ list_any (λ i. eqb i k) (j ∷ js) → j ≤ k
not_below k ks j js h same = go (nat_le j k) refl
  where
    go : (b : Bool) → nat_le j k ≡ b → j ≤ k
    go true e = leb-true j k e
    go false e = absurd (true≢false (sym (first_among k ks) ∙ same ∙ ap (λ b. b || list_any (λ i. eqb i k) js) (differ e) ∙ none_below j k js (lower e) h.0))
      where
        differ : nat_le j k ≡ false → eqb j k ≡ false
        differ e = grind (arith, nat_tests)

        lower : nat_le j k ≡ false → k ≤ j
        lower e = grind (arith, nat_tests)

or_rest : (a b c d e : Bool) → a ≡ b → (a ≡ true → c ≡ e) → (b ≡ true → d ≡ e) → (a || c) ≡ (b || d) → c ≡ d
or_rest true true c d e p q r h = q refl ∙ sym (r refl)
or_rest false false c d e p q r h = h
or_rest true false c d e p q r h = absurd (true≢false p)
or_rest false true c d e p q r h = absurd (true≢false (sym p))

rises-same : (ks js : List ℕ) → Rises ks → Rises js → ((k : ℕ) → list_any (λ i. eqb i k) ks ≡ list_any (λ i. eqb i k) js) → ks ≡ js
rises-same [] [] h g same = refl
rises-same [] (j ∷ js) h g same = absurd (true≢false (sym (first_among j js) ∙ sym (same j)))
rises-same (k ∷ ks) [] h g same = absurd (true≢false (sym (first_among k ks) ∙ same k))
rises-same (k ∷ ks) (j ∷ js) h g same =
    let a = not_below k ks j js g (same k) in
    let b = not_below j js k ks h (sym (same j)) in
    let is : k ≡ j = omega (arith, a, b) in
    ap (λ i. i ∷ ks) is
    ∙ ap (λ l. j ∷ l)
    (rises-same ks js h.1 g.1
    (λ i.
    or_rest (eqb k i) (eqb j i) (list_any (λ n. eqb n i) ks) (list_any (λ n. eqb n i) js) false (ap (λ n. eqb n i) is)
    (λ e. let f = eqb-true k i e in none_below k i ks (omega (arith, f)) h.0)
    (λ e. let f = eqb-true j i e in none_below j i js (omega (arith, f)) g.0)
    (same i)))

abbrev some : {X : Type 0} → List X → Bool
some [] = false
some (x ∷ xs) = true

list_any-some : {X : Type 0} (p : X → Bool) (xs : List X) → list_any p xs ≡ some (filter p xs)
list_any-some p [] = refl
list_any-some p (x ∷ xs) = go (p x) (list_any-some p xs)
  where
    go : (b : Bool) → list_any p xs ≡ some (filter p xs) → (b || list_any p xs) ≡ some (cond b (x ∷ filter p xs) (filter p xs))
    go true e = refl
    go false e = e

keys-same : (key : Fragment → ℕ) (fs gs : List Fragment) → ((k : ℕ) → with_key key k fs ≡ with_key key k gs) → rising_once (map key fs) ≡ rising_once (map key gs)
keys-same key fs gs same =
    rises-same (rising_once (map key fs)) (rising_once (map key gs)) (Rises-rising_once (map key fs)) (Rises-rising_once (map key gs)) (λ k. among k fs ∙ ap some (same k) ∙ sym (among k gs))
  where
    among : (k : ℕ) (hs : List Fragment) → list_any (λ i. eqb i k) (rising_once (map key hs)) ≡ some (with_key key k hs)
    among k hs = list_any-rising_once (λ i. eqb i k) (map key hs) ∙ list_any-map (λ i. eqb i k) key hs ∙ list_any-some (λ f. eqb (key f) k) hs

-- what is made goes by what there is of each number, in its order
pub made-same : {Y : Type 0} (key : Fragment → ℕ) (make : List Fragment → List Y) (fs gs : List Fragment) → ((k : ℕ) → with_key key k fs ≡ with_key key k gs) → by_rising key make fs ≡ by_rising key make gs
made-same key make fs gs same =
    ap (flat_map (λ k. make (with_key key k fs))) (keys-same key fs gs same)
    ∙ flat_map-same (λ k. make (with_key key k fs)) (λ k. make (with_key key k gs)) (rising_once (map key gs)) (every (rising_once (map key gs)))
  where
    every : (ks : List ℕ) → AllByRecursion (λ k. make (with_key key k fs) ≡ make (with_key key k gs)) ks
    every [] = tt
    every (k ∷ ks) = (ap make (same k), every ks)
