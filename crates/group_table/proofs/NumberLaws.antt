-- Numbers of slots, where one more is given.
use Rattle.std.proofs.Common.{◌≡◌, inl, inr, ℕ, zero, suc, ◌+◌, ◌≤◌, ◌<◌, ◌&&◌, not, Bool, cond, true, false, true≢false, List, [], ◌∷◌, length, get_or, set, take, ◌++◌, replicate, refl, sym, ap, subst, ◌∙◌, arith, length-set}
use Rattle.std.specs.List.{count_by}
use Rattle.std.proofs.lemmas.Bool.{cases_eq, ne_eqb, or_parts}
use Rattle.std.proofs.lemmas.List.{get_or-set_same, get_or-set_other, length-replicate}
use Rattle.std.proofs.lemmas.List.Sums.{sum_by-set, sum_by-cons, count_by-le-length}
use Rattle.queryset_lanes.specs.Slots.{but_not, has_slot}
use Rattle.slot_walk.specs.Walk.{IsTaken}
use Rattle.group_table.specs.Grids.{Numbering, AreMore, AreNumbers}
use Rattle.group_table.proofs.EachLaws.{out-same, out-other}

-- a slot more
many-on : (known : List Bool) (slot : ℕ) → slot < length known → get_or known slot false ≡ false → count_by (λ on. on) (set known slot true) ≡ count_by (λ on. on) known + 1
many-on known slot low off =
    let on : cond {A = ℕ} (get_or known slot false) 1 0 ≡ 0 = ap (λ on. cond {A = ℕ} on 1 0) off in
    let c = sum_by-set (λ on. cond {A = ℕ} on 1 0) known slot true false low in
    omega (arith, on, c)

module _ (numbers : List ℕ) (known : List Bool) (width : ℕ) (h : AreNumbers numbers known width) where
  long : length known ≡ 512
  long = h.sets

  pub width-most : width ≤ 512
  width-most = let a = h.many in let b = count_by-le-length (λ on. on) known in let d = h.sets in omega (arith, a, b, d)

  -- a slot without a number is not known
  not-known : (slot : ℕ) → get_or numbers slot 512 ≡ 512 → get_or known slot false ≡ false
  not-known slot none = go (get_or known slot false) refl
    where
      go : (t : Bool) → get_or known slot false ≡ t → t ≡ false
      go false e = refl
      go true e = let a = h.given slot e in let b = width-most in absurd (omega (arith, a, b, none))

  module _ (slot : ℕ) (low : slot < 512) (none : get_or numbers slot 512 ≡ 512) where
    pub width-few : width < 512
    width-few =
        let a = many-on known slot (let e = h.sets in omega (arith, low, e)) (not-known slot none) in
        let b = count_by-le-length (λ on. on) (set known slot true) in
        let c = length-set known slot true in
        let d = h.many in
        let e = h.sets in
        omega (arith, a, b, c, d, e)

    same : get_or (set numbers slot width) slot 512 ≡ width
    same = get_or-set_same numbers slot width 512 (let e = h.slots in omega (arith, e, low))

    other : (s : ℕ) → (s ≡ slot → ⊥) → get_or (set numbers slot width) s 512 ≡ get_or numbers s 512
    other s n = get_or-set_other numbers slot s width 512 n

    known-other : (s : ℕ) → (s ≡ slot → ⊥) → get_or (set known slot true) s false ≡ get_or known s false
    known-other s n = get_or-set_other known slot s true false n

    known-same : get_or (set known slot true) slot false ≡ true
    known-same = get_or-set_same known slot true false (let e = h.sets in omega (arith, low, e))

    -- no slot has the next number
    free : (s : ℕ) → get_or numbers s 512 ≡ width → ⊥
    free s e = go (get_or known s false) refl
      where
        go : (t : Bool) → get_or known s false ≡ t → ⊥
        go true k = let a = h.given s k in omega (arith, a, e)
        go false k = let a = h.none s k in let b = width-few in omega (arith, a, b, e)

    pub numbers-one : AreNumbers (set numbers slot width) (set known slot true) (width + 1)
    numbers-one = record {
      slots = length-set numbers slot width ∙ h.slots;
      sets = length-set known slot true ∙ h.sets;
      many = let a = many-on known slot (let e = h.sets in omega (arith, low, e)) (not-known slot none) in let b = h.many in omega (arith, a, b);
      given = λ s on. elim (cases_eq s slot) [
        | inl at ↦ let e = ap (λ k. get_or (set numbers slot width) k 512) at in let f = same in omega (arith, e, f)
        | inr n ↦ let a = h.given s (sym (known-other s n) ∙ on) in let e = other s n in omega (arith, a, e)
      ];
      none = λ s off. elim (cases_eq s slot) [
        | inl at ↦ absurd (true≢false (sym (ap (λ k. get_or (set known slot true) k false) at ∙ known-same) ∙ off))
        | inr n ↦ other s n ∙ h.none s (sym (known-other s n) ∙ off)
      ];
      apart = apart;
    }
      where
        apart : (s t : ℕ) → get_or (set numbers slot width) s 512 < width + 1 → get_or (set numbers slot width) s 512 ≡ get_or (set numbers slot width) t 512 → s ≡ t
        apart s t below e = elim (cases_eq s slot) [
          | inl at ↦ elim (cases_eq t slot) [
            | inl also ↦ at ∙ sym also
            | inr m ↦ absurd (free t (sym (other t m) ∙ sym e ∙ ap (λ k. get_or (set numbers slot width) k 512) at ∙ same))
          ]
          | inr n ↦ elim (cases_eq t slot) [
            | inl also ↦ absurd (free s (sym (other s n) ∙ e ∙ ap (λ k. get_or (set numbers slot width) k 512) also ∙ same))
            | inr m ↦
                let a = other s n in
                let f = free s in
                h.apart s t (less (get_or numbers s 512) width (omega (arith, a, below)) f) (sym a ∙ e ∙ other t m)
          ]
        ]
          where
            less : (x y : ℕ) → x < y + 1 → (x ≡ y → ⊥) → x < y
            less x y l n = elim (cases_eq x y) [
              | inl e ↦ absurd (n e)
              | inr m ↦ omega (arith, l, m)
            ]

-- ---- sets

pub not-both : (xs ys : List Bool) → length xs ≡ length ys → (s : ℕ) → get_or (but_not xs ys) s false ≡ (get_or xs s false && not (get_or ys s false))
not-both [] [] e s = refl
not-both [] (y ∷ ys) e s = absurd (omega (arith, e))
not-both (x ∷ xs) [] e s = absurd (omega (arith, e))
not-both (x ∷ xs) (y ∷ ys) e zero = refl
not-both (x ∷ xs) (y ∷ ys) e (suc s) = not-both xs ys (omega (arith, e)) s

pub none-in : (xs : List Bool) → has_slot xs ≡ false → (s : ℕ) → get_or xs s false ≡ false
none-in [] e s = refl
none-in (x ∷ xs) e zero = (or_parts x (has_slot xs) e).0
none-in (x ∷ xs) e (suc s) = none-in xs (or_parts x (has_slot xs) e).1 s

pub not-true : (b : Bool) → not b ≡ true → b ≡ false
not-true true e = absurd (true≢false (sym e))
not-true false e = refl

and-both : (a b : Bool) → (a && b) ≡ true → (a ≡ true) × (b ≡ true)
and-both true true e = (refl, refl)
and-both true false e = absurd (true≢false (sym e))
and-both false b e = absurd (true≢false (sym e))

not-false : (a b : Bool) → a ≡ true → (a && not b) ≡ false → b ≡ true
not-false true true p e = refl
not-false true false p e = absurd (true≢false e)
not-false false b p e = absurd (true≢false (sym p))

module _ (numbers : List ℕ) (known : List Bool) (width : ℕ) (h : AreNumbers numbers known width) (slots : List Bool) (long : length slots ≡ length known) where
  -- slots that are not known have none
  pub lacking-none : (s : ℕ) → get_or (but_not slots known) s false ≡ true → get_or numbers s 512 ≡ 512
  lacking-none s on =
      h.none s (not-true (get_or known s false) (and-both (get_or slots s false) (not (get_or known s false)) (sym (not-both slots known long s) ∙ on)).1)

  -- and the others have one
  pub lacking-others : (s : ℕ) → get_or slots s false ≡ true → get_or (but_not slots known) s false ≡ false → get_or numbers s 512 < width
  lacking-others s on off = h.given s (not-false (get_or slots s false) (get_or known s false) on (sym (not-both slots known long s) ∙ off))

  -- where all known slots are among these, others have none
  pub among-none : has_slot (but_not known slots) ≡ false → (s : ℕ) → get_or slots s false ≡ false → width ≤ get_or numbers s 512
  among-none none s off =
      let a = h.none s (go (get_or known s false) (get_or slots s false) off (sym (not-both known slots (sym long) s) ∙ none-in (but_not known slots) none s)) in
      let b = width-most numbers known width h in
      omega (arith, a, b)
    where
      go : (a b : Bool) → b ≡ false → (a && not b) ≡ false → a ≡ false
      go a true p e = absurd (true≢false p)
      go true false p e = absurd (true≢false e)
      go false false p e = refl

-- ---- slots given one by one

-- The slots of a set but those that are left have numbers now, and those that are left have none.
pub record AreGiving (old new : Numbering) (slots left : List Bool) : Type 0 where
  pub more : AreMore old new
  pub given : (s : ℕ) → get_or slots s false ≡ true → get_or left s false ≡ false → get_or new.numbers s 512 < new.width
  pub waiting : (s : ℕ) → get_or left s false ≡ true → get_or new.numbers s 512 ≡ 512

pub giving-begin : (n : Numbering) (slots left : List Bool) → left ≡ slots → ((s : ℕ) → get_or slots s false ≡ true → get_or n.numbers s 512 ≡ 512) → AreGiving n n slots left
giving-begin n slots left is none = record {
  more = record { wider = omega arith; fresh = λ s. inl refl };
  given = λ s on off. absurd (true≢false (sym on ∙ ap (λ l. get_or l s false) (sym is) ∙ off));
  waiting = λ s on. none s (ap (λ l. get_or l s false) (sym is) ∙ on);
}

pub giving-step : (old now next : Numbering) (slots left rest : List Bool) (slot : ℕ) → AreGiving old now slots left → IsTaken left rest slot → length now.numbers ≡ 512 → now.width < 512
    → next ≡ record { numbers = set now.numbers slot now.width; width = now.width + 1 } → AreGiving old next slots rest
giving-step old now next slots left rest slot h k long few is = subst (λ n. AreGiving old n slots rest) (sym is) (record {
  more = record {
    wider = let a = h.more.wider in omega (arith, a);
    fresh = λ s. elim (cases_eq s slot) [
      | inl at ↦ inr (far (λ e. omega (arith, e, few)) s at, let a = ap (λ n. get_or (set now.numbers slot now.width) n 512) at in let b = same in let d = h.more.wider in omega (arith, a, b, d))
      | inr n ↦ elim (h.more.fresh s) [
        | inl e ↦ inl (other s n ∙ e)
        | inr p ↦ inr (p.0, let a = other s n in let b = p.1 in omega (arith, a, b))
      ]
    ];
  };
  given = λ s on off. elim (cases_eq s slot) [
    | inl at ↦ let a = ap (λ n. get_or (set now.numbers slot now.width) n 512) at in let b = same in omega (arith, a, b)
    | inr n ↦ let a = h.given s on (sym (left-other s n) ∙ off) in let b = other s n in omega (arith, a, b)
  ];
  waiting = λ s on. elim (cases_eq s slot) [
    | inl at ↦ absurd (true≢false (sym on ∙ ap (λ n. get_or rest n false) at ∙ ap (λ l. get_or l slot false) k.gone ∙ out-same left slot))
    | inr n ↦ other s n ∙ h.waiting s (sym (left-other s n) ∙ on)
  ];
})
  where
    same : get_or (set now.numbers slot now.width) slot 512 ≡ now.width
    same = get_or-set_same now.numbers slot now.width 512 (let a = k.within in omega (arith, a, long))

    other : (s : ℕ) → (s ≡ slot → ⊥) → get_or (set now.numbers slot now.width) s 512 ≡ get_or now.numbers s 512
    other s n = get_or-set_other now.numbers slot s now.width 512 n

    left-other : (s : ℕ) → (s ≡ slot → ⊥) → get_or rest s false ≡ get_or left s false
    left-other s n = ap (λ l. get_or l s false) k.gone ∙ out-other left slot s (ne_eqb s slot n)

    -- it had no number before
    far : (512 ≡ now.width → ⊥) → (s : ℕ) → s ≡ slot → old.width ≤ get_or old.numbers s 512
    far n s at = elim (h.more.fresh s) [
      | inl e ↦ let a = ap (λ n. get_or now.numbers n 512) at in let b = h.waiting slot k.was in let d = h.more.wider in omega (arith, a, b, d, e, few)
      | inr p ↦ p.0
    ]

pub giving-done : (old now : Numbering) (slots left : List Bool) → AreGiving old now slots left → ((s : ℕ) → get_or left s false ≡ false) → (s : ℕ) → get_or slots s false ≡ true → get_or now.numbers s 512 < now.width
giving-done old now slots left h none s on = h.given s on (none s)

-- ---- no number

count-off : (n : ℕ) → count_by (λ on. on) (replicate n false) ≡ 0
count-off zero = refl
count-off (suc n) = let a = count-off n in let b = sum_by-cons (λ on. cond {A = ℕ} on 1 0) false (replicate n false) in omega (arith, a, b)

off-at : (n s : ℕ) → get_or (replicate n false) s false ≡ false
off-at zero s = refl
off-at (suc n) zero = refl
off-at (suc n) (suc s) = off-at n s

pub numbers-none : (numbers : List ℕ) (known : List Bool) (width k : ℕ) → length numbers ≡ 512 → ((s : ℕ) → get_or numbers s 512 ≡ 512) → known ≡ replicate k false → k ≡ 512 → width ≡ 0 → AreNumbers numbers known width
numbers-none numbers known width k long none is all nothing = record {
  slots = long;
  sets = ap length is ∙ length-replicate {A = Bool} k false ∙ all;
  many = let a = ap (count_by (λ on. on)) is in let b = count-off k in omega (arith, a, b, nothing);
  given = λ s on. absurd (true≢false (sym on ∙ ap (λ l. get_or l s false) is ∙ off-at k s));
  none = λ s off. none s;
  apart = λ s t low e. absurd (omega (arith, low, nothing));
}

pub no-number : (numbers start : List ℕ) (n k : ℕ) → numbers ≡ take n start ++ replicate k 512 → start ≡ [] → (s : ℕ) → ◌≡◌ {A = ℕ} (get_or numbers s 512) 512
no-number numbers start n k is none s = ap (λ (l : List ℕ). get_or l s 512) (is ∙ ap (λ (l : List ℕ). take n l ++ replicate k 512) none) ∙ nothing n
  where
    at : (k s : ℕ) → ◌≡◌ {A = ℕ} (get_or (replicate k 512) s 512) 512
    at zero s = refl
    at (suc k) zero = refl
    at (suc k) (suc s) = at k s

    nothing : (n : ℕ) → ◌≡◌ {A = ℕ} (get_or (take n [] ++ replicate k 512) s 512) 512
    nothing zero = at k s
    nothing (suc n) = at k s
