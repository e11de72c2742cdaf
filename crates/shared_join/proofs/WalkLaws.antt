-- Records that are walked one after another, and what an index of them finds.
use Rattle.std.proofs.Common.{◌≡◌, ℕ, ℤ, ◌+◌, ◌<◌, ◌≤◌, ◌&&◌, not, Bool, true, false, cond, List, [], ◌∷◌, ◌++◌, length, get_or, take, zero, suc, refl, sym, ap, ap₂, ◌∙◌, append-nil, true≢false, arith}
use Rattle.std.specs.List.{filter, flat_map, range_with_len, AllByRecursion}
use Rattle.std.specs.Ordering.{int_eq}
use Rattle.std.proofs.lemmas.List.{take_more, take_all, flat_map_more}
use Rattle.std.proofs.lemmas.List.Elements.{filter-append, All-from_recursion}
use Rattle.std.proofs.lemmas.List.Folds.{flat_map-map}
use Rattle.std.proofs.lemmas.Simd.{pick_l-range_with_len}
use Rattle.key_index.specs.Places.{added}
use Rattle.queryset_lanes.specs.Slots.{both, has_slot}
use Rattle.slice_store.specs.Placed.{Placed, placed, placed_of, records_of, sets_of}
use Rattle.views.proofs.ListLaws.{All-filter}
use Rattle.shared_join.specs.declared.pair.Pair.{Pair}
use Rattle.shared_join.specs.Found.{nothing, has_key_at, places_with, kept_pair, kept_at, found_with, have_same_key, turned_pair}

-- ---- records and sets

pub placed-again : (ps : List Placed) → placed_of (records_of ps) (sets_of ps) ≡ ps
placed-again [] = refl
placed-again (p ∷ ps) = ap (λ l. p ∷ l) (placed-again ps)

-- ---- a walk

-- one element more
pub walk-more : {X Y : Type 0} (f : X → List Y) (xs : List X) (k : ℕ) (d : X) → k < length xs → (first was now : List Y)
    → was ≡ first ++ flat_map f (take k xs) → now ≡ was ++ f (get_or xs k d) → now ≡ first ++ flat_map f (take (k + 1) xs)
walk-more f xs k d within first was now before more =
    more
    ∙ ap (λ l. l ++ f (get_or xs k d)) before
    ∙ flat_map_more f first (take k xs) (get_or xs k d)
    ∙ ap (λ l. first ++ flat_map f l) (sym (take_more xs k d within))

-- all elements
pub walk-all : {X Y : Type 0} (f : X → List Y) (xs : List X) (k : ℕ) → length xs ≤ k → (first now : List Y)
    → now ≡ first ++ flat_map f (take k xs) → now ≡ first ++ flat_map f xs
walk-all f xs k le first now h = h ∙ ap (λ l. first ++ flat_map f l) (take_all k xs le)

-- ---- places

range-last : (a n : ℕ) → range_with_len a (suc n) ≡ range_with_len a n ++ (a + n) ∷ []
range-last a zero = let e : a ≡ a + 0 = omega arith in ap (λ k. k ∷ []) e
range-last a (suc n) = let e : a + 1 + n ≡ a + suc n = omega arith in ap (λ l. a ∷ l) (range-last (a + 1) n ∙ ap (λ k. range_with_len (a + 1) n ++ k ∷ []) e)

-- one place more
pub places-more : (p : ℕ → Bool) (n : ℕ) → filter p (range_with_len 0 (n + 1)) ≡ filter p (range_with_len 0 n) ++ cond (p n) (n ∷ []) []
places-more p n =
    let on : n + 1 ≡ suc n = omega arith in
    let at : 0 + n ≡ n = omega arith in
    ap (λ k. filter p (range_with_len 0 k)) on
    ∙ ap (filter p) (range-last 0 n ∙ ap (λ k. range_with_len 0 n ++ k ∷ []) at)
    ∙ filter-append p (range_with_len 0 n) (n ∷ [])

-- what gives nothing where a test fails needs no look at what fails it
flat_map-filter : {X Y : Type 0} (f : X → List Y) (p : X → Bool) → ((x : X) → p x ≡ false → f x ≡ []) → (xs : List X) → flat_map f (filter p xs) ≡ flat_map f xs
flat_map-filter f p none [] = refl
flat_map-filter f p none (x ∷ xs) = go (p x) refl (flat_map-filter f p none xs)
  where
    go : (b : Bool) → p x ≡ b → flat_map f (filter p xs) ≡ flat_map f xs → flat_map f (cond b (x ∷ filter p xs) (filter p xs)) ≡ f x ++ flat_map f xs
    go true e rest = ap (λ l. f x ++ l) rest
    go false e rest = rest ∙ ap (λ l. l ++ flat_map f xs) (sym (none x e))

-- all places, one after another
flat_map-places : {X Y : Type 0} (f : X → List Y) (xs : List X) (d : X) → flat_map (λ n. f (get_or xs n d)) (range_with_len 0 (length xs)) ≡ flat_map f xs
flat_map-places f xs d =
    sym (flat_map-map f (λ n. get_or xs n d) (range_with_len 0 (length xs)))
    ∙ ap (flat_map f) (pick_l-range_with_len d xs 0 (length xs) (omega arith) ∙ take_all (length xs) xs (omega arith))

-- The others that an index gives for a record's key are all that it makes pairs with.
pub by-places : (turned : Bool) (one : Placed) (others : List Placed)
    → flat_map (kept_at turned one others) (places_with one.accepted.given.key others) ≡ flat_map (kept_pair turned one) others
by-places turned one others =
    flat_map-filter (kept_at turned one others) (has_key_at one.accepted.given.key others) none (range_with_len 0 (length others))
    ∙ flat_map-places (kept_pair turned one) others nothing
  where
    none : (n : ℕ) → has_key_at one.accepted.given.key others n ≡ false → kept_at turned one others n ≡ []
    none n e =
        let q : Placed = get_or others n nothing in
        ap (λ b. cond (b && has_slot (both one.set q.set)) (turned_pair turned one.accepted q.accepted (both one.set q.set) ∷ []) []) e

range-below : (a n m : ℕ) → a + n ≤ m → AllByRecursion (λ k. k < m) (range_with_len a n)
range-below a zero m le = tt
range-below a (suc n) m le = (omega (arith, le), range-below (a + 1) n m (omega (arith, le)))

-- each of the places is that of a record
pub places-within : (key : ℤ) (ps : List Placed) (i : ℕ) → i < length (places_with key ps) → get_or (places_with key ps) i 0 < length ps
places-within key ps i lt =
    All-from_recursion (λ k. k < length ps) (places_with key ps)
    (All-filter (λ k. k < length ps) (has_key_at key ps) (range_with_len 0 (length ps)) (range-below 0 (length ps) (length ps) (omega arith))) i 0 lt

-- the place of one record more in the index
pub index-more : (ps : List Placed) (n place : ℕ) (q : Placed) (key : ℤ) (was now : ℤ → List ℕ) → get_or ps n nothing ≡ q → key ≡ q.accepted.given.key → place ≡ n
    → ((k : ℤ) → was k ≡ filter (has_key_at k ps) (range_with_len 0 n)) → ((k : ℤ) → now k ≡ added was key place k)
    → (k : ℤ) → now k ≡ filter (has_key_at k ps) (range_with_len 0 (n + 1))
index-more ps n place q key was now is same at before more k =
    more k
    ∙ ap₂ (λ x i. cond (int_eq k x) (was k ++ i ∷ []) (was k)) (same ∙ sym (ap (λ (p : Placed). p.accepted.given.key) is)) at
    ∙ ap (λ l. cond (has_key_at k ps n) (l ++ n ∷ []) l) (before k)
    ∙ either (has_key_at k ps n) (filter (has_key_at k ps) (range_with_len 0 n))
    ∙ sym (places-more (has_key_at k ps) n)
  where
    either : (b : Bool) (l : List ℕ) → cond b (l ++ n ∷ []) l ≡ l ++ cond b (n ∷ []) []
    either true l = refl
    either false l = sym (append-nil l)

-- the pairs of one record more
pub join-more : (turned : Bool) (mask : List Bool) (ones others : List Placed) (k : ℕ) (q : Placed) (slots : List Bool) → k < length ones
    → get_or ones k nothing ≡ q → slots ≡ both q.set mask → (first was now : List Pair) → was ≡ first ++ flat_map (found_with turned mask others) (take k ones)
    → now ≡ was ++ flat_map (kept_pair turned (placed q.accepted slots)) others
    → now ≡ first ++ flat_map (found_with turned mask others) (take (k + 1) ones)
join-more turned mask ones others k q slots within is common first was now before more =
    walk-more (found_with turned mask others) ones k nothing within first was now before
    (more ∙ ap (λ s. was ++ flat_map (kept_pair turned (placed q.accepted s)) others) common ∙ ap (λ p. was ++ found_with turned mask others p) (sym is))

-- ---- a record without a slot

no-slot : (s t : List Bool) → has_slot s ≡ false → has_slot (both s t) ≡ false
no-slot [] t none = refl
no-slot (x ∷ s) [] none = refl
no-slot (true ∷ s) (y ∷ t) none = absurd (true≢false none)
no-slot (false ∷ s) (y ∷ t) none = no-slot s t none

-- makes no pair to keep
pub none-kept : (turned : Bool) (p : Placed) (others : List Placed) → has_slot p.set ≡ false → flat_map (kept_pair turned p) others ≡ []
none-kept turned p [] none = refl
none-kept turned p (q ∷ others) none =
    ap (λ b. cond (have_same_key p.accepted q.accepted && b) (turned_pair turned p.accepted q.accepted (both p.set q.set) ∷ []) [] ++ flat_map (kept_pair turned p) others) (no-slot p.set q.set none)
    ∙ ap (λ b. cond b (turned_pair turned p.accepted q.accepted (both p.set q.set) ∷ []) [] ++ flat_map (kept_pair turned p) others) (late (have_same_key p.accepted q.accepted))
    ∙ none-kept turned p others none
  where
    late : (b : Bool) → (b && false) ≡ false
    late true = refl
    late false = refl

-- what is told of an empty set
pub nothing-more : (turned empty : Bool) (p : Placed) (others : List Placed) (pairs : List Pair) → empty ≡ not (has_slot p.set) → empty ≡ true → pairs ≡ pairs ++ flat_map (kept_pair turned p) others
nothing-more turned empty p others pairs told is = sym (ap (λ l. pairs ++ l) (none-kept turned p others (go (has_slot p.set) (sym told ∙ is))) ∙ append-nil pairs)
  where
    go : (b : Bool) → not b ≡ true → b ≡ false
    go true h = sym h
    go false h = refl
