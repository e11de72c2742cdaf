-- Fragments that are lent and stand by a number: where those of the first number end.
use Rattle.std.proofs.Common.{◌≡◌, ℕ, ◌+◌, ◌-◌, ◌≤◌, ◌<◌, nat_le, eqb, Bool, true, false, true≢false, not, cond, ◌&&◌, ◌⊎◌, inl, inr, List, [], ◌∷◌, ◌++◌, map, length, get_or, take, drop, zero, suc, refl, sym, ap, ap₂, ◌∙◌, length-drop, arith}
use Rattle.std.specs.Borrow.{Bor}
use Rattle.std.specs.Cmp.{IsStrictWeakOrder}
use Rattle.std.specs.List.{filter, AllByRecursion}
use Rattle.std.specs.List.Sorted.{IsPartitionPoint, IsPartitionedBy, IsStableByKey, ties}
use Rattle.std.specs.Ordering.{nat_cmp, is_lt}
use Rattle.std.proofs.lemmas.Bool.{le-leb, leb-true, leb-false, eqb-true}
use Rattle.std.proofs.lemmas.Bool.Decides.{nat_tests}
use Rattle.std.proofs.lemmas.Cmp.{nat_cmp_total}
use Rattle.std.proofs.lemmas.List.{get_or-drop, drop-drop}
use Rattle.std.proofs.lemmas.List.Elements.{filter_agree}
use Rattle.std.proofs.lemmas.List.Sorted.{ranks_by, sorted_far}
use Rattle.as_base.specs.declared.fragment.Fragment.{Fragment}
use Rattle.views.proofs.ListLaws.{All-by, All-map, filter-map}
use Rattle.views.proofs.SortLaws.{NeverFallsBy, NeverFallsBy-from_sorted, sorted_from_NeverFallsBy}
use Rattle.result_router.specs.Lent.{lent, AreBy}
use Rattle.result_router.specs.Rising.{with_key, by_rising}
use Rattle.result_router.proofs.RunLaws.{above, upto-least, first-made}

-- ---- a cut

-- the elements before the point pass, the others do not
abbrev pub IsCutAt : {X : Type 0} → (X → Bool) → List X → ℕ → Type 0
IsCutAt p xs i = IsPartitionPoint (λ x. p x ≡ true) (λ x. p x ≡ false) xs i

rest-cut : {X : Type 0} (p : X → Bool) (x : X) (xs : List X) (i : ℕ) → IsCutAt p (x ∷ xs) (suc i) → IsCutAt p xs i
rest-cut p x xs i h = (λ k d low high. h.0 (suc k) d (omega arith) (omega (arith, high)), λ k d low high. h.1 (suc k) d (omega (arith, low)) (omega (arith, high)))

none-cut : {X : Type 0} (p : X → Bool) (x : X) (xs : List X) → IsCutAt p (x ∷ xs) 0 → IsCutAt p xs 0
none-cut p x xs h = (λ k d low high. absurd (omega (arith, low, high)), λ k d low high. h.1 (suc k) d (omega arith) (omega (arith, high)))

cut-before : {X : Type 0} (p : X → Bool) (i : ℕ) (xs : List X) → IsCutAt p xs i → take i xs ≡ filter p xs
cut-before p zero [] h = refl
cut-before p (suc i) [] h = refl
cut-before p zero (x ∷ xs) h = cut-before p 0 xs (none-cut p x xs h) ∙ ap (λ b. cond b (x ∷ filter p xs) (filter p xs)) (sym (h.1 0 x (omega arith) (omega arith)))
cut-before p (suc i) (x ∷ xs) h =
    ap (λ l. x ∷ l) (cut-before p i xs (rest-cut p x xs i h)) ∙ ap (λ b. cond b (x ∷ filter p xs) (filter p xs)) (sym (h.0 0 x (omega arith) (omega arith)))

cut-rest : {X : Type 0} (p : X → Bool) (i : ℕ) (xs : List X) → IsCutAt p xs i → drop i xs ≡ filter (λ x. not (p x)) xs
cut-rest p zero [] h = refl
cut-rest p (suc i) [] h = refl
cut-rest p zero (x ∷ xs) h =
    ap (λ l. x ∷ l) (cut-rest p 0 xs (none-cut p x xs h))
    ∙ ap (λ b. cond (not b) (x ∷ filter (λ x. not (p x)) xs) (filter (λ x. not (p x)) xs)) (sym (h.1 0 x (omega arith) (omega arith)))
cut-rest p (suc i) (x ∷ xs) h =
    cut-rest p i xs (rest-cut p x xs i h) ∙ ap (λ b. cond (not b) (x ∷ filter (λ x. not (p x)) xs) (filter (λ x. not (p x)) xs)) (sym (h.0 0 x (omega arith) (omega arith)))

-- the same of a rest that begins before the point
cut-drop : {X : Type 0} (p : X → Bool) (from i : ℕ) (xs : List X) → from ≤ i → IsCutAt p xs i → IsCutAt p (drop from xs) (i - from)
cut-drop p from i xs le h = (
  λ k d low high. ap p (get_or-drop from xs k d) ∙ h.0 (from + k) d (omega arith) (omega (arith, high, le)),
  λ k d low high. ap p (get_or-drop from xs k d) ∙ h.1 (from + k) d (omega (arith, low, le)) (let long = length-drop from xs in omega (arith, high, long)),
)

-- ---- in order

abbrev key_below : (Fragment → ℕ) → Bor Fragment → Bor Fragment → Bool
key_below key a b = is_lt (nat_cmp (key a.now) (key b.now))

key_weak : (key : Fragment → ℕ) → IsStrictWeakOrder (key_below key)
key_weak key = ranks_by nat_cmp_total (λ (b : Bor Fragment). key b.now)

not_lower : (a b : ℕ) → is_lt (nat_cmp b a) ≡ false → a ≤ b
not_lower a b e = grind (arith, nat_tests)

still : (x y z : ℕ) → is_lt (nat_cmp y x) ≡ false → nat_le y z ≡ true → nat_le x z ≡ true
still x y z low e = grind (arith, nat_tests)

same_ties : (x y : ℕ) → (not (is_lt (nat_cmp x y)) && not (is_lt (nat_cmp y x))) ≡ eqb y x
same_ties x y = grind (arith, nat_tests)

pub partitioned : (key : Fragment → ℕ) (n : ℕ) (bs : List (Bor Fragment)) → AreBy key bs → IsPartitionedBy (λ (b : Bor Fragment). nat_le (key b.now) n) bs
partitioned key n bs order i j d le within passes = still (key (get_or bs i d).now) (key (get_or bs j d).now) n (sorted_far (key_below key) (key_weak key) bs order i j d le within) passes

NeverFallsBy-drop : {X : Type 0} (lt : X → X → Bool) (i : ℕ) (xs : List X) → NeverFallsBy lt xs → NeverFallsBy lt (drop i xs)
NeverFallsBy-drop lt zero xs h = h
NeverFallsBy-drop lt (suc i) [] h = tt
NeverFallsBy-drop lt (suc i) (x ∷ xs) h = NeverFallsBy-drop lt i xs h.1

first-least : (key : Fragment → ℕ) (b : Bor Fragment) (bs : List (Bor Fragment)) → NeverFallsBy (key_below key) (b ∷ bs) → AllByRecursion (λ g. key b.now ≤ key g) (lent bs)
first-least key b bs h =
    All-map (λ g. key b.now ≤ key g) (λ (x : Bor Fragment). x.now) bs
    (All-by (λ y. key_below key y b ≡ false) (λ (y : Bor Fragment). key b.now ≤ key y.now) (λ y e. not_lower (key b.now) (key y.now) e) bs h.0)

-- ---- the first of those with the least number

lent-filter : (p : Fragment → Bool) (bs : List (Bor Fragment)) → lent (filter (λ (b : Bor Fragment). p b.now) bs) ≡ filter p (lent bs)
lent-filter p bs = sym (filter-map p (λ (b : Bor Fragment). b.now) bs)

-- the first stand up to the cut
run-key : (key : Fragment → ℕ) (bs : List (Bor Fragment)) (m n : ℕ) (d : Bor Fragment) → NeverFallsBy (key_below key) bs → 0 < length bs → n ≡ key (get_or bs 0 d).now
    → IsCutAt (λ (b : Bor Fragment). nat_le (key b.now) n) bs m → lent (take m bs) ≡ with_key key n (lent bs)
run-key key [] m n d h some is cut = absurd (omega (arith, some))
run-key key (b ∷ bs) m n d h some is cut =
    ap lent (cut-before (λ (b : Bor Fragment). nat_le (key b.now) n) m (b ∷ bs) cut)
    ∙ lent-filter (λ g. nat_le (key g) n) (b ∷ bs)
    ∙ upto-least key n (b.now ∷ lent bs) (omega (arith, is), All-by (λ g. key b.now ≤ key g) (λ g. n ≤ key g) (λ g le. omega (arith, is, le)) (lent bs) (first-least key b bs h))

run-made : {Y : Type 0} (key : Fragment → ℕ) (make : List Fragment → List Y) (bs : List (Bor Fragment)) (m n : ℕ) (d : Bor Fragment) → NeverFallsBy (key_below key) bs → 0 < length bs → n ≡ key (get_or bs 0 d).now
    → IsCutAt (λ (b : Bor Fragment). nat_le (key b.now) n) bs m → by_rising key make (lent bs) ≡ make (lent (take m bs)) ++ by_rising key make (lent (drop m bs))
run-made key make [] m n d h some is cut = absurd (omega (arith, some))
run-made key make (b ∷ bs) m n d h some is cut =
    first-made key make b.now (lent bs) (first-least key b bs h)
    ∙ ap₂ (λ front back. make front ++ by_rising key make back)
    (ap (λ k. with_key key k (lent (b ∷ bs))) (sym is) ∙ sym (run-key key (b ∷ bs) m n d h some is cut))
    (ap (λ k. filter (λ g. above k (key g)) (lent (b ∷ bs))) (sym is)
    ∙ sym (ap lent (cut-rest (λ (b : Bor Fragment). nat_le (key b.now) n) m (b ∷ bs) cut) ∙ lent-filter (λ g. not (nat_le (key g) n)) (b ∷ bs)))

-- ---- those from a place on, where a cut at the number of the one there is made

module _ (key : Fragment → ℕ) (bs : List (Bor Fragment)) (from until n : ℕ) (d : Bor Fragment) (within : from < length bs) (order : AreBy key bs) (is : n ≡ key (get_or bs from d).now)
    (cut : IsCutAt (λ (b : Bor Fragment). nat_le (key b.now) n) bs until) where
  pub after : from < until
  after = go (nat_le until from) refl
    where
      go : (b : Bool) → nat_le until from ≡ b → from < until
      go true e = let le = leb-true until from e in absurd (true≢false (sym (le-leb (key (get_or bs from d).now) n (omega (arith, is))) ∙ cut.1 from d le within))
      go false e = leb-false until from e

  first : n ≡ key (get_or (drop from bs) 0 d).now
  first = is ∙ ap (λ (b : Bor Fragment). key b.now) (ap (λ i. get_or bs i d) (omega arith) ∙ sym (get_or-drop from bs 0 d))

  some : 0 < length (drop from bs)
  some = let long = length-drop from bs in omega (arith, long, within)

  falls : NeverFallsBy (key_below key) (drop from bs)
  falls = NeverFallsBy-drop (key_below key) from bs (NeverFallsBy-from_sorted (key_below key) (key_weak key) bs order)

  later : IsCutAt (λ (b : Bor Fragment). nat_le (key b.now) n) (drop from bs) (until - from)
  later = let low = after in cut-drop (λ (b : Bor Fragment). nat_le (key b.now) n) from until bs (omega (arith, low)) cut

  pub taken : lent (take (until - from) (drop from bs)) ≡ with_key key n (lent (drop from bs))
  taken = run-key key (drop from bs) (until - from) n d falls some first later

  pub made : {Y : Type 0} (make : List Fragment → List Y) → by_rising key make (lent (drop from bs)) ≡ make (lent (take (until - from) (drop from bs))) ++ by_rising key make (lent (drop until bs))
  made make =
      run-made key make (drop from bs) (until - from) n d falls some first later
      ∙ ap (λ l. make (lent (take (until - from) (drop from bs))) ++ by_rising key make (lent l))
      (drop-drop (until - from) from bs ∙ ap (λ i. drop i bs) (let low = after in omega (arith, low)))

-- ---- a stable sort

module _ (key : Fragment → ℕ) (k : ℕ) where
  -- an element that has the number, if there is one
  look : (bs : List (Bor Fragment)) → (with_key key k (lent bs) ≡ []) ⊎ ((x : Bor Fragment) × (key x.now ≡ k))
  look [] = inl refl
  look (b ∷ bs) = go (eqb (key b.now) k) refl (look bs)
    where
      go : (t : Bool) → eqb (key b.now) k ≡ t → (with_key key k (lent bs) ≡ []) ⊎ ((x : Bor Fragment) × (key x.now ≡ k))
          → (cond t (b.now ∷ with_key key k (lent bs)) (with_key key k (lent bs)) ≡ []) ⊎ ((x : Bor Fragment) × (key x.now ≡ k))
      go true e rest = inr (b, eqb-true (key b.now) k e)
      go false e rest = rest

  tied : (x : Bor Fragment) → key x.now ≡ k → (bs : List (Bor Fragment)) → lent (filter (ties (key_below key) x) bs) ≡ with_key key k (lent bs)
  tied x is bs =
      ap lent (filter_agree (ties (key_below key) x) (λ (b : Bor Fragment). eqb (key b.now) k) (λ b. same_ties (key x.now) (key b.now) ∙ ap (λ n. eqb (key b.now) n) is) bs)
      ∙ lent-filter (λ g. eqb (key g) k) bs

  -- a stable sort leaves those of each number as they are
  pub stable-keys : (bs cs : List (Bor Fragment)) → IsStableByKey (λ (b : Bor Fragment). key b.now) nat_cmp bs cs → with_key key k (lent cs) ≡ with_key key k (lent bs)
  stable-keys bs cs stable = elim (look bs) [
    | inr x ↦ by_one x
    | inl none ↦ elim (look cs) [ inr x ↦ by_one x | inl neither ↦ neither ∙ sym none ]
  ]
    where
      by_one : (x : Bor Fragment) × (key x.now ≡ k) → with_key key k (lent cs) ≡ with_key key k (lent bs)
      by_one x = sym (tied x.0 x.1 cs) ∙ ap lent (stable x.0) ∙ tied x.0 x.1 bs
