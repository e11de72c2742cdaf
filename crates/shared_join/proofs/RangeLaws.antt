-- The places of a range, walked one after another.
use Rattle.std.proofs.Common.{◌≡◌, ◌⊎◌, inl, inr, ◌↔◌, ℕ, zero, suc, ◌+◌, ◌<◌, ◌≤◌, min, leb, ltb, Bool, true, false, cond, ◌&&◌, List, [], ◌∷◌, ◌++◌, map, refl, sym, ap, ap₂, ◌∙◌, append-nil, arith}
use Rattle.std.specs.List.{filter, flat_map, range_with_len}
use Rattle.std.proofs.lemmas.Bool.{cases_lt, lt-ltb, le-ltb, le-leb, lt-leb}
use Rattle.std.proofs.lemmas.Int.{clamps}
use Rattle.std.proofs.lemmas.List.{flat_map_more}
use Rattle.std.proofs.lemmas.List.FromFn.{filter_of_map_range_with_len_more}
use Rattle.shared_join.specs.Window.{is_between}

-- The numbers at the places from `low` on and before `past`, of the first so many, are just those in the range.
abbrev pub AreBetween : (from to low past count : ℕ) (start : ℕ → ℕ) → Type 0
AreBetween from to low past count start = (i : ℕ) → i < count → ((low ≤ i) × (i < past)) ↔ ((from ≤ start i) × (start i < to))

inside : (from to n : ℕ) → from ≤ n → n < to → is_between from to n ≡ true
inside from to n h g = ap₂ (λ a b. a && b) (le-leb from n h) (lt-ltb n to g)

outside : (from to n : ℕ) → ¬ ((from ≤ n) × (n < to)) → is_between from to n ≡ false
outside from to n h = go (cases_lt n from) (cases_lt n to)
  where
    late : (b : Bool) → (b && false) ≡ false
    late true = refl
    late false = refl

    go : (n < from) ⊎ (from ≤ n) → (n < to) ⊎ (to ≤ n) → is_between from to n ≡ false
    go (inl early) q = ap (λ a. a && ltb n to) (lt-leb from n early)
    go (inr p) (inl q) = absurd (h (p, q))
    go (inr p) (inr after) = ap (λ b. leb from n && b) (le-ltb n to after) ∙ late (leb from n)

-- one number more, and which
upto-more : (p : ℕ → Bool) (start : ℕ → ℕ) (n : ℕ) → filter p (map start (range_with_len 0 (n + 1))) ≡ filter p (map start (range_with_len 0 n)) ++ cond (p (start n)) (start n ∷ []) []
upto-more p start n = filter_of_map_range_with_len_more p start 0 n n (omega arith)

-- numbers that fail add nothing
upto-rest : (p : ℕ → Bool) (start : ℕ → ℕ) (k n : ℕ) → k ≤ n → ((i : ℕ) → k ≤ i → i < n → p (start i) ≡ false)
    → filter p (map start (range_with_len 0 n)) ≡ filter p (map start (range_with_len 0 k))
upto-rest p start k zero le fail = let same : zero ≡ k = omega (arith, le) in ap (λ m. filter p (map start (range_with_len 0 m))) same
upto-rest p start k (suc n) le fail = go (λ ge. upto-rest p start k n ge (λ i a b. fail i a (omega (arith, b)))) (cases_lt n k)
  where
    go : (k ≤ n → filter p (map start (range_with_len 0 n)) ≡ filter p (map start (range_with_len 0 k))) → (n < k) ⊎ (k ≤ n)
        → filter p (map start (range_with_len 0 (suc n))) ≡ filter p (map start (range_with_len 0 k))
    go rest (inl lt) = let same : suc n ≡ k = omega (arith, le, lt) in ap (λ m. filter p (map start (range_with_len 0 m))) same
    go rest (inr ge) =
        let on : suc n ≡ n + 1 = omega arith in
        ap (λ m. filter p (map start (range_with_len 0 m))) on
        ∙ upto-more p start n
        ∙ ap (λ b. filter p (map start (range_with_len 0 n)) ++ cond b (start n ∷ []) []) (fail n ge (omega arith))
        ∙ append-nil (filter p (map start (range_with_len 0 n)))
        ∙ rest ge

module _ {Y : Type 0} (f : ℕ → List Y) (from to low past count : ℕ) (start : ℕ → ℕ) (are : AreBetween from to low past count start) (first : List Y) where
  -- before the first place
  pub range-begins : first ≡ first ++ flat_map f (filter (is_between from to) (map start (range_with_len 0 (min low count))))
  range-begins =
      sym (ap (λ l. first ++ flat_map f l) (upto-rest (is_between from to) start 0 (min low count) (omega arith)
      (λ i _ lt. outside from to (start i) (λ h. let a = (are i (omega (arith, clamps, lt))).1 h in absurd (omega (arith, clamps, lt, a)))))
      ∙ append-nil first)

  -- one place more
  pub range-more : (k : ℕ) (was now : List Y) → min low count ≤ k → k < min past count
      → was ≡ first ++ flat_map f (filter (is_between from to) (map start (range_with_len 0 k))) → now ≡ was ++ f (start k)
      → now ≡ first ++ flat_map f (filter (is_between from to) (map start (range_with_len 0 (k + 1))))
  range-more k was now ge lt before more =
      let h : (from ≤ start k) × (start k < to) = (are k (omega (arith, clamps, lt))).0 (omega (arith, clamps, ge, lt), omega (arith, clamps, lt)) in
      more
      ∙ ap (λ l. l ++ f (start k)) before
      ∙ flat_map_more f first (filter (is_between from to) (map start (range_with_len 0 k))) (start k)
      ∙ ap (λ b. first ++ flat_map f (filter (is_between from to) (map start (range_with_len 0 k)) ++ cond b (start k ∷ []) [])) (sym (inside from to (start k) h.0 h.1))
      ∙ ap (λ l. first ++ flat_map f l) (sym (upto-more (is_between from to) start k))

  -- after the last place
  pub range-ends : (k : ℕ) (now : List Y) → k ≤ count → min past count ≤ k
      → now ≡ first ++ flat_map f (filter (is_between from to) (map start (range_with_len 0 k)))
      → now ≡ first ++ flat_map f (filter (is_between from to) (map start (range_with_len 0 count)))
  range-ends k now le ge h =
      h ∙ ap (λ l. first ++ flat_map f l) (sym (upto-rest (is_between from to) start k count le
      (λ i a b. outside from to (start i) (λ q. let r = (are i b).1 q in absurd (omega (arith, clamps, a, b, ge, r))))))
