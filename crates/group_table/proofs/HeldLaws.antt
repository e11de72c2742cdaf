-- What a cell more, or slots less, do to cells held in one list.
use Rattle.std.proofs.Common.{◌≡◌, ◌⊎◌, inl, inr, ℕ, zero, suc, ◌+◌, ◌≤◌, ◌<◌, ◌^◌, ◌==◌, ◌&&◌, ◌||◌, not, nat_le, ℤ, Bool, cond, true, false, List, [], ◌∷◌, ◌++◌, length, get_or, max, None, Some, refl, sym, ap, ap₂, subst, ◌∙◌, ⊎_elim, arith}
use Rattle.std.specs.List.{fold, filter, position, position_or_len, AllByRecursion}
use Rattle.std.specs.Ordering.{int_eq}
use Rattle.std.proofs.lemmas.Bool.{cases_eq, cases_lt, cond-true, lt-ltb, leb-true, eqb-true, eq-eqb, ne_eqb, and_parts}
use Rattle.std.proofs.lemmas.Int.{ints}
use Rattle.std.proofs.lemmas.List.Sums.{prefix_len-le-length}
use Rattle.std.proofs.lemmas.List.Quantifiers.{position-Some}
use Rattle.std.proofs.lemmas.Option.{none-some}
use Rattle.as_base.specs.declared.fragment.Cell.{Cell}
use Rattle.group_table.specs.declared.small.Entry.{Entry}
use Rattle.group_table.specs.Cells.{plus, add_in, sums, count_at, times, IsSound, AreCells}
use Rattle.group_table.specs.Held.{is_of, is_kept, held, put, put_at, none, IsEntry, AreEntries}
use Rattle.group_table.proofs.CellLaws.{add_plus, fold_last}
use Rattle.group_table.proofs.SumLaws.{eq-from, eq-to, count-added, count-sums}

abbrev entry : ℕ → Cell → Entry
entry slot c = record { slot = slot; cell = c }

pub eq-self : (n : ℕ) → (n == n) ≡ true
eq-self n = eq-eqb n n refl

pub eq-turn : (m n : ℕ) → (m == n) ≡ (n == m)
eq-turn m n = elim (cases_eq m n) [ inl e ↦ eq-eqb m n e ∙ sym (eq-eqb n m (sym e)) | inr k ↦ ne_eqb m n k ∙ sym (ne_eqb n m (λ e. k (sym e))) ]

-- ---- entry by entry

pub held-of : (e : Entry) (es : List Entry) (slot : ℕ) → (e.slot == slot) ≡ true → held (e ∷ es) slot ≡ e.cell ∷ held es slot
held-of e es slot p = ap (λ t. cond t (e.cell ∷ held es slot) (held es slot)) p

pub held-other : (e : Entry) (es : List Entry) (slot : ℕ) → (e.slot == slot) ≡ false → held (e ∷ es) slot ≡ held es slot
held-other e es slot p = ap (λ t. cond t (e.cell ∷ held es slot) (held es slot)) p

put-of : (slot : ℕ) (c : Cell) (e : Entry) (es : List Entry) → is_of slot c.group e ≡ true → put slot c (e ∷ es) ≡ entry e.slot (plus e.cell c) ∷ es
put-of slot c e es p = ap (λ t. cond t (entry e.slot (plus e.cell c) ∷ es) (e ∷ put slot c es)) p

put-other : (slot : ℕ) (c : Cell) (e : Entry) (es : List Entry) → is_of slot c.group e ≡ false → put slot c (e ∷ es) ≡ e ∷ put slot c es
put-other slot c e es p = ap (λ t. cond t (entry e.slot (plus e.cell c) ∷ es) (e ∷ put slot c es)) p

-- an entry is of the slot and the group, of the slot alone, or of another slot
abbrev Kinds : ℕ → Cell → Entry → Type 0
Kinds slot c e = ((is_of slot c.group e ≡ true) × (e.slot == slot ≡ true) × (e.cell.group ≡ c.group))
    ⊎ (((is_of slot c.group e ≡ false) × (e.slot == slot ≡ true) × (int_eq e.cell.group c.group ≡ false)) ⊎ ((is_of slot c.group e ≡ false) × (e.slot == slot ≡ false)))

kinds : (slot : ℕ) (c : Cell) (e : Entry) → Kinds slot c e
kinds slot c e = go (e.slot == slot) (int_eq e.cell.group c.group) refl refl
  where
    go : (s g : Bool) → (e.slot == slot) ≡ s → int_eq e.cell.group c.group ≡ g → Kinds slot c e
    go true true p q = inl (ap₂ (λ x y. x && y) p q, p, eq-from e.cell.group c.group q)
    go true false p q = inr (inl (ap₂ (λ x y. x && y) p q, p, q))
    go false g p q = inr (inr (ap (λ x. x && int_eq e.cell.group c.group) p, p))

-- ---- one cell more

-- of its own slot
pub put-here : (b : List Cell) (slot : ℕ) (c : Cell) (es : List Entry) → fold add_in b (held (put slot c es) slot) ≡ add_in (fold add_in b (held es slot)) c
put-here b slot c [] = ap (fold add_in b) (held-of (entry slot c) [] slot (eq-self slot))
put-here b slot c (e ∷ es) = elim (kinds slot c e) [
  | inl k ↦
      ap (λ l. fold add_in b (held l slot)) (put-of slot c e es k.0)
      ∙ ap (fold add_in b) (held-of (entry e.slot (plus e.cell c)) es slot k.1)
      ∙ ap (λ l. fold add_in l (held es slot)) (add_plus b e.cell c k.2)
      ∙ fold_last (add_in b e.cell) c (held es slot)
      ∙ sym (ap (λ l. add_in (fold add_in b l) c) (held-of e es slot k.1))
  | inr (inl k) ↦
      ap (λ l. fold add_in b (held l slot)) (put-other slot c e es k.0)
      ∙ ap (fold add_in b) (held-of e (put slot c es) slot k.1)
      ∙ put-here (add_in b e.cell) slot c es
      ∙ sym (ap (λ l. add_in (fold add_in b l) c) (held-of e es slot k.1))
  | inr (inr k) ↦
      ap (λ l. fold add_in b (held l slot)) (put-other slot c e es k.0)
      ∙ ap (fold add_in b) (held-other e (put slot c es) slot k.1)
      ∙ put-here b slot c es
      ∙ sym (ap (λ l. add_in (fold add_in b l) c) (held-other e es slot k.1))
]

-- of another slot
pub put-elsewhere : (slot s : ℕ) (c : Cell) (es : List Entry) → (slot == s) ≡ false → held (put slot c es) s ≡ held es s
put-elsewhere slot s c [] n = held-other (entry slot c) [] s n
put-elsewhere slot s c (e ∷ es) n = elim (kinds slot c e) [
  | inl k ↦
      let m : (e.slot == s) ≡ false = ap (λ j. j == s) (eqb-true e.slot slot k.1) ∙ n in
      ap (λ l. held l s) (put-of slot c e es k.0) ∙ held-other (entry e.slot (plus e.cell c)) es s m ∙ sym (held-other e es s m)
  | inr (inl k) ↦ ap (λ l. held l s) (put-other slot c e es k.0) ∙ ap (λ l. cond (e.slot == s) (e.cell ∷ l) l) (put-elsewhere slot s c es n)
  | inr (inr k) ↦ ap (λ l. held l s) (put-other slot c e es k.0) ∙ ap (λ l. cond (e.slot == s) (e.cell ∷ l) l) (put-elsewhere slot s c es n)
]

-- the sums of each slot
pub put-sums : (slot s : ℕ) (c : Cell) (es : List Entry) → sums (held (put slot c es) s) ≡ cond (s == slot) (add_in (sums (held es s)) c) (sums (held es s))
put-sums slot s c es = go (s == slot) refl
  where
    go : (t : Bool) → (s == slot) ≡ t → sums (held (put slot c es) s) ≡ cond t (add_in (sums (held es s)) c) (sums (held es s))
    go true e = let same = eqb-true s slot e in subst (λ k. sums (held (put slot c es) k) ≡ add_in (sums (held es k)) c) (sym same) (put-here [] slot c es)
    go false e = ap sums (put-elsewhere slot s c es (eq-turn slot s ∙ e))

-- ---- no slot has two cells of a group

times-most : (slot : ℕ) (c : Cell) (g : ℤ) (es : List Entry) → c.group ≡ g → times g (held (put slot c es) slot) ≤ max 1 (times g (held es slot))
times-most slot c g [] same =
    let own = ap (λ t. cond {A = ℕ} t 1 0) (eq-to c.group g same) in
    subst (λ l. times g l ≤ max 1 0) (sym (held-of (entry slot c) [] slot (eq-self slot))) (omega (arith, own))
times-most slot c g (e ∷ es) same = elim (kinds slot c e) [
  | inl k ↦
      let new : held (put slot c (e ∷ es)) slot ≡ plus e.cell c ∷ held es slot = ap (λ l. held l slot) (put-of slot c e es k.0) ∙ held-of (entry e.slot (plus e.cell c)) es slot k.1 in
      let a = ap (times g) new in let b = ap (times g) (held-of e es slot k.1) in omega (arith, a, b)
  | inr (inl k) ↦
      let new : held (put slot c (e ∷ es)) slot ≡ e.cell ∷ held (put slot c es) slot = ap (λ l. held l slot) (put-other slot c e es k.0) ∙ held-of e (put slot c es) slot k.1 in
      let apart = ap (λ t. cond {A = ℕ} t 1 0) (ap (int_eq e.cell.group) (sym same) ∙ k.2) in
      let a = ap (times g) new in let b = ap (times g) (held-of e es slot k.1) in let h = times-most slot c g es same in omega (arith, a, b, h, apart)
  | inr (inr k) ↦
      let new : held (put slot c (e ∷ es)) slot ≡ held (put slot c es) slot = ap (λ l. held l slot) (put-other slot c e es k.0) ∙ held-other e (put slot c es) slot k.1 in
      let a = ap (times g) new in let b = ap (times g) (held-other e es slot k.1) in let h = times-most slot c g es same in omega (arith, a, b, h)
]

times-apart : (slot : ℕ) (c : Cell) (g : ℤ) (es : List Entry) → int_eq c.group g ≡ false → times g (held (put slot c es) slot) ≡ times g (held es slot)
times-apart slot c g [] other =
    let a = ap (times g) (held-of (entry slot c) [] slot (eq-self slot)) in let b = ap (λ t. cond {A = ℕ} t 1 0) other in omega (arith, a, b)
times-apart slot c g (e ∷ es) other = elim (kinds slot c e) [
  | inl k ↦
      let new : held (put slot c (e ∷ es)) slot ≡ plus e.cell c ∷ held es slot = ap (λ l. held l slot) (put-of slot c e es k.0) ∙ held-of (entry e.slot (plus e.cell c)) es slot k.1 in
      let a = ap (times g) new in let b = ap (times g) (held-of e es slot k.1) in omega (arith, a, b)
  | inr (inl k) ↦
      let new : held (put slot c (e ∷ es)) slot ≡ e.cell ∷ held (put slot c es) slot = ap (λ l. held l slot) (put-other slot c e es k.0) ∙ held-of e (put slot c es) slot k.1 in
      let a = ap (times g) new in let b = ap (times g) (held-of e es slot k.1) in let h = times-apart slot c g es other in omega (arith, a, b, h)
  | inr (inr k) ↦
      let new : held (put slot c (e ∷ es)) slot ≡ held (put slot c es) slot = ap (λ l. held l slot) (put-other slot c e es k.0) ∙ held-other e (put slot c es) slot k.1 in
      let a = ap (times g) new in let b = ap (times g) (held-other e es slot k.1) in let h = times-apart slot c g es other in omega (arith, a, b, h)
]

once-here : (slot : ℕ) (c : Cell) (g : ℤ) (es : List Entry) → times g (held es slot) ≤ 1 → times g (held (put slot c es) slot) ≤ 1
once-here slot c g es once = go (int_eq c.group g) refl
  where
    go : (t : Bool) → int_eq c.group g ≡ t → times g (held (put slot c es) slot) ≤ 1
    go true p = let h = times-most slot c g es (eq-from c.group g p) in omega (arith, h, once)
    go false p = let h = times-apart slot c g es p in omega (arith, h, once)

once-put : (slot s : ℕ) (c : Cell) (g : ℤ) (es : List Entry) → times g (held es s) ≤ 1 → times g (held (put slot c es) s) ≤ 1
once-put slot s c g es once = go (slot == s) refl
  where
    go : (t : Bool) → (slot == s) ≡ t → times g (held (put slot c es) s) ≤ 1
    go true p =
        let same = eqb-true slot s p in
        subst (λ k. times g (held (put slot c es) k) ≤ 1) same (once-here slot c g es (subst (λ k. times g (held es k) ≤ 1) (sym same) once))
    go false p = subst (λ l. times g l ≤ 1) (sym (put-elsewhere slot s c es p)) once

-- ---- the counts

count-here : (slot : ℕ) (c : Cell) (g : ℤ) (es : List Entry) → count_at (held (put slot c es) slot) g ≡ count_at (c ∷ held es slot) g
count-here slot c g es =
    let a = count-sums g (held (put slot c es) slot) in
    let b = ap (λ l. count_at l g) (put-here [] slot c es) in
    let d = count-added g (sums (held es slot)) c in
    let e = count-sums g (held es slot) in
    omega (arith, a, b, d, e)

few-put : (slot s : ℕ) (c : Cell) (g : ℤ) (es : List Entry) → count_at (held es s) g ≤ 2 ^ 62 → count_at (held es slot) c.group + c.count ≤ 2 ^ 62
    → count_at (held (put slot c es) s) g ≤ 2 ^ 62
few-put slot s c g es few one = go (slot == s) (int_eq c.group g) refl refl
  where
    go : (t u : Bool) → (slot == s) ≡ t → int_eq c.group g ≡ u → count_at (held (put slot c es) s) g ≤ 2 ^ 62
    go true true p q =
        let same = eqb-true slot s p in
        let h = count-here slot c g es in
        let own = ap (λ t. cond {A = ℕ} t c.count 0) q in
        let k = ap (count_at (held es slot)) (eq-from c.group g q) in
        subst (λ k. count_at (held (put slot c es) k) g ≤ 2 ^ 62) same (omega (arith, h, own, k, one))
    go true false p q =
        let same = eqb-true slot s p in
        let h = count-here slot c g es in
        let own = ap (λ t. cond {A = ℕ} t c.count 0) q in
        let old : count_at (held es slot) g ≤ 2 ^ 62 = subst (λ k. count_at (held es k) g ≤ 2 ^ 62) (sym same) few in
        subst (λ k. count_at (held (put slot c es) k) g ≤ 2 ^ 62) same (omega (arith, h, own, old))
    go false u p q = subst (λ l. count_at l g ≤ 2 ^ 62) (sym (put-elsewhere slot s c es p)) few

-- ---- sound entries

pub sound-plus : (c d : Cell) → IsSound c → IsSound d → IsSound (plus c d)
sound-plus c d h k = record {
  above = let a = h.above in let b = k.above in omega (arith, ints, a, b);
  below = let a = h.below in let b = k.below in omega (arith, ints, a, b);
}

each-put : (slot : ℕ) (c : Cell) (es : List Entry) → slot < 512 → 0 < c.count → IsSound c → AllByRecursion IsEntry es → AllByRecursion IsEntry (put slot c es)
each-put slot c [] low some sound each = (record { slot = low; some = some; sound = sound }, tt)
each-put slot c (e ∷ es) low some sound each = elim (kinds slot c e) [
  | inl k ↦
      let h = each.0 in
      let one : IsEntry (entry e.slot (plus e.cell c)) = record { slot = h.slot; some = (let a = h.some in omega (arith, a)); sound = sound-plus e.cell c h.sound sound } in
      subst (AllByRecursion IsEntry) (sym (put-of slot c e es k.0)) (one, each.1)
  | inr (inl k) ↦ subst (AllByRecursion IsEntry) (sym (put-other slot c e es k.0)) (each.0, each-put slot c es low some sound each.1)
  | inr (inr k) ↦ subst (AllByRecursion IsEntry) (sym (put-other slot c e es k.0)) (each.0, each-put slot c es low some sound each.1)
]

-- entries stay sound with one cell more
pub entries-put : (slot : ℕ) (c : Cell) (es : List Entry) → slot < 512 → 0 < c.count → IsSound c → count_at (held es slot) c.group + c.count ≤ 2 ^ 62 → AreEntries es → AreEntries (put slot c es)
entries-put slot c es low some sound one h = record {
  each = each-put slot c es low some sound h.each;
  once = λ s g. once-put slot s c g es (h.once s g);
  few = λ s g. few-put slot s c g es (h.few s g) one;
}

-- ---- where the cell is put

-- into the place that was found
pub put-found : (slot : ℕ) (c : Cell) (es : List Entry) (i : ℕ) → i < length es → is_of slot c.group (get_or es i none) ≡ true → ((k : ℕ) → k < i → is_of slot c.group (get_or es k none) ≡ false)
    → put slot c es ≡ put_at i c es
put-found slot c [] i low at before = absurd (omega (arith, low))
put-found slot c (e ∷ es) zero low at before = put-of slot c e es at
put-found slot c (e ∷ es) (suc i) low at before =
    put-other slot c e es (before 0 (omega arith)) ∙ ap (λ l. e ∷ l) (put-found slot c es i (omega (arith, low)) at (λ k h. before (suc k) (omega (arith, h))))

missing : (slot : ℕ) (c : Cell) (es : List Entry) → position_or_len (is_of slot c.group) es ≡ length es → put slot c es ≡ es ++ entry slot c ∷ []
missing slot c [] h = refl
missing slot c (e ∷ es) h = go (is_of slot c.group e) refl (missing slot c es)
  where
    go : (t : Bool) → is_of slot c.group e ≡ t → (position_or_len (is_of slot c.group) es ≡ length es → put slot c es ≡ es ++ entry slot c ∷ []) → put slot c (e ∷ es) ≡ e ∷ es ++ entry slot c ∷ []
    go true p rest = absurd (let a = ap (λ t. cond {A = ℕ} (not t) (1 + position_or_len (is_of slot c.group) es) 0) p in omega (arith, a, h))
    go false p rest = put-other slot c e es p ∙ ap (λ l. e ∷ l) (rest (let a = ap (λ t. cond {A = ℕ} (not t) (1 + position_or_len (is_of slot c.group) es) 0) p in omega (arith, a, h)))

-- last, where there is none
pub put-missing : (slot : ℕ) (c : Cell) (es : List Entry) → None ≡ position (is_of slot c.group) es → put slot c es ≡ es ++ entry slot c ∷ []
put-missing slot c es e =
    let most = prefix_len-le-length (λ e. not (is_of slot c.group e)) es in
    missing slot c es (⊎_elim
    (λ l. absurd (none-some _ (e ∙ cond-true _ _ _ (lt-ltb _ _ l))))
    (λ g. omega (arith, g, most))
    (cases_lt (position_or_len (is_of slot c.group) es) (length es)))

-- what the cell in the place counts is part of its slot's and group's
pub count-found : (slot : ℕ) (g : ℤ) (es : List Entry) (i : ℕ) → i < length es → is_of slot g (get_or es i none) ≡ true → (get_or es i none).cell.count ≤ count_at (held es slot) g
count-found slot g [] i low at = absurd (omega (arith, low))
count-found slot g (e ∷ es) zero low at =
    let p = and_parts (e.slot == slot) (int_eq e.cell.group g) at in
    let a = ap (λ l. count_at l g) (held-of e es slot p.0) in
    let b = ap (λ t. cond {A = ℕ} t e.cell.count 0) p.1 in
    omega (arith, a, b)
count-found slot g (e ∷ es) (suc i) low at = go (e.slot == slot) refl (count-found slot g es i (omega (arith, low)) at)
  where
    go : (t : Bool) → (e.slot == slot) ≡ t → (get_or es i none).cell.count ≤ count_at (held es slot) g → (get_or es i none).cell.count ≤ count_at (held (e ∷ es) slot) g
    go true p h = let a = ap (λ l. count_at l g) (held-of e es slot p) in omega (arith, a, h)
    go false p h = let a = ap (λ l. count_at l g) (held-other e es slot p) in omega (arith, a, h)

-- ---- slots less

abbrev keeps : List Bool → Entry → Bool
keeps slots e = is_kept slots e.slot

held-kept : (slots : List Bool) (es : List Entry) (s : ℕ) → held (filter (keeps slots) es) s ≡ cond (is_kept slots s) (held es s) []
held-kept slots [] s = go (is_kept slots s)
  where
    go : (t : Bool) → [] ≡ cond {A = List Cell} t [] []
    go true = refl
    go false = refl
held-kept slots (e ∷ es) s = go (is_kept slots e.slot) (e.slot == s) refl refl (held-kept slots es s)
  where
    go : (t u : Bool) → is_kept slots e.slot ≡ t → (e.slot == s) ≡ u → held (filter (keeps slots) es) s ≡ cond (is_kept slots s) (held es s) []
        → held (filter (keeps slots) (e ∷ es)) s ≡ cond (is_kept slots s) (held (e ∷ es) s) []
    go true true p q h =
        let here : is_kept slots s ≡ true = ap (is_kept slots) (sym (eqb-true e.slot s q)) ∙ p in
        ap (λ t. held (cond t (e ∷ filter (keeps slots) es) (filter (keeps slots) es)) s) p ∙ held-of e (filter (keeps slots) es) s q
        ∙ ap (λ l. e.cell ∷ l) (h ∙ ap (λ t. cond t (held es s) []) here) ∙ sym (held-of e es s q) ∙ sym (ap (λ t. cond t (held (e ∷ es) s) []) here)
    go true false p q h =
        ap (λ t. held (cond t (e ∷ filter (keeps slots) es) (filter (keeps slots) es)) s) p ∙ held-other e (filter (keeps slots) es) s q
        ∙ h ∙ ap (λ l. cond (is_kept slots s) l []) (sym (held-other e es s q))
    go false true p q h =
        let here : is_kept slots s ≡ false = ap (is_kept slots) (sym (eqb-true e.slot s q)) ∙ p in
        ap (λ t. held (cond t (e ∷ filter (keeps slots) es) (filter (keeps slots) es)) s) p
        ∙ h ∙ ap (λ t. cond t (held es s) []) here ∙ sym (ap (λ t. cond t (held (e ∷ es) s) []) here)
    go false false p q h =
        ap (λ t. held (cond t (e ∷ filter (keeps slots) es) (filter (keeps slots) es)) s) p
        ∙ h ∙ ap (λ l. cond (is_kept slots s) l []) (sym (held-other e es s q))

-- beyond the slots there are no cells
none-beyond : (es : List Entry) (s : ℕ) → AllByRecursion IsEntry es → 512 ≤ s → held es s ≡ []
none-beyond [] s each high = refl
none-beyond (e ∷ es) s each high =
    let h = each.0 in
    let low = h.slot in
    held-other e es s (ne_eqb e.slot s (λ e. omega (arith, e, low, high))) ∙ none-beyond es s each.1 high

-- the cells of each slot that are left
pub held-left : (slots : List Bool) (es : List Entry) (s : ℕ) → AllByRecursion IsEntry es → held (filter (keeps slots) es) s ≡ cond (get_or slots s false) [] (held es s)
held-left slots es s each = go (nat_le 512 s) (get_or slots s false) refl refl
  where
    go : (t u : Bool) → nat_le 512 s ≡ t → get_or slots s false ≡ u → held (filter (keeps slots) es) s ≡ cond u [] (held es s)
    go true u p q =
        let gone = none-beyond es s each (leb-true 512 s p) in
        held-kept slots es s ∙ ap (λ t. cond (t || not (get_or slots s false)) (held es s) []) p ∙ gone ∙ sym (ap (λ l. cond u [] l) gone ∙ both u)
      where
        both : (u : Bool) → cond {A = List Cell} u [] [] ≡ []
        both true = refl
        both false = refl
    go false true p q = held-kept slots es s ∙ ap₂ (λ t u. cond (t || not u) (held es s) []) p q
    go false false p q = held-kept slots es s ∙ ap₂ (λ t u. cond (t || not u) (held es s) []) p q

each-left : (slots : List Bool) (es : List Entry) → AllByRecursion IsEntry es → AllByRecursion IsEntry (filter (keeps slots) es)
each-left slots [] each = tt
each-left slots (e ∷ es) each = go (is_kept slots e.slot) (each-left slots es each.1)
  where
    go : (t : Bool) → AllByRecursion IsEntry (filter (keeps slots) es) → AllByRecursion IsEntry (cond t (e ∷ filter (keeps slots) es) (filter (keeps slots) es))
    go true rest = (each.0, rest)
    go false rest = rest

-- entries stay sound
pub entries-left : (slots : List Bool) (es : List Entry) → AreEntries es → AreEntries (filter (keeps slots) es)
entries-left slots es h = record {
  each = each-left slots es h.each;
  once = λ s g. subst (λ l. times g l ≤ 1) (sym (held-left slots es s h.each)) (go-once (get_or slots s false) s g);
  few = λ s g. subst (λ l. count_at l g ≤ 2 ^ 62) (sym (held-left slots es s h.each)) (go-few (get_or slots s false) s g);
}
  where
    go-once : (t : Bool) (s : ℕ) (g : ℤ) → times g (cond t [] (held es s)) ≤ 1
    go-once true s g = omega arith
    go-once false s g = h.once s g

    go-few : (t : Bool) (s : ℕ) (g : ℤ) → count_at (cond t [] (held es s)) g ≤ 2 ^ 62
    go-few true s g = omega arith
    go-few false s g = h.few s g

pub sums-left : (slots : List Bool) (es : List Entry) (s : ℕ) → AllByRecursion IsEntry es → sums (held (filter (keeps slots) es) s) ≡ cond (get_or slots s false) [] (sums (held es s))
sums-left slots es s each = ap sums (held-left slots es s each) ∙ go (get_or slots s false)
  where
    go : (t : Bool) → sums (cond t [] (held es s)) ≡ cond t [] (sums (held es s))
    go true = refl
    go false = refl

-- an entry more is a cell more of its slot
pub length-held : (e : Entry) (es : List Entry) (s : ℕ) → length (held (e ∷ es) s) ≡ length (held es s) + cond (s == e.slot) 1 0
length-held e es s = go (e.slot == s) refl
  where
    go : (t : Bool) → (e.slot == s) ≡ t → length (held (e ∷ es) s) ≡ length (held es s) + cond (s == e.slot) 1 0
    go true p = let a = ap length (held-of e es s p) in let b = ap (λ t. cond {A = ℕ} t 1 0) (eq-turn s e.slot ∙ p) in omega (arith, a, b)
    go false p = let a = ap length (held-other e es s p) in let b = ap (λ t. cond {A = ℕ} t 1 0) (eq-turn s e.slot ∙ p) in omega (arith, a, b)

-- a place that was found
pub put-some : (slot : ℕ) (c : Cell) (es : List Entry) (i : ℕ) → Some i ≡ position (is_of slot c.group) es → put slot c es ≡ put_at i c es
put-some slot c es i e = let at = position-Some (is_of slot c.group) es i none (sym e) in put-found slot c es i at.0 at.1 at.2

pub few-some : (slot : ℕ) (c : Cell) (es : List Entry) (i : ℕ) → Some i ≡ position (is_of slot c.group) es → count_at (held es slot) c.group + c.count ≤ 2 ^ 62 → (get_or es i none).cell.count + c.count ≤ 2 ^ 62
few-some slot c es i e few =
    let at = position-Some (is_of slot c.group) es i none (sym e) in
    let k = count-found slot c.group es i at.0 at.1 in
    omega (arith, k, few)

-- what holds of each entry's cell holds of the cells of a slot
all-held : (P : Cell → Type 0) (es : List Entry) (s : ℕ) → AllByRecursion (λ (e : Entry). P e.cell) es → AllByRecursion P (held es s)
all-held P [] s h = tt
all-held P (e ∷ es) s h = go (e.slot == s) (all-held P es s h.1)
  where
    go : (t : Bool) → AllByRecursion P (held es s) → AllByRecursion P (cond t (e.cell ∷ held es s) (held es s))
    go true k = (h.0, k)
    go false k = k

each-cell : (P : Cell → Type 0) (es : List Entry) → ((e : Entry) → IsEntry e → P e.cell) → AllByRecursion IsEntry es → AllByRecursion (λ (e : Entry). P e.cell) es
each-cell P [] f h = tt
each-cell P (e ∷ es) f h = (f e h.0, each-cell P es f h.1)

pub entries-cells : (es : List Entry) (s : ℕ) → AreEntries es → AreCells (held es s)
entries-cells es s h = record {
  once = h.once s;
  sound = all-held IsSound es s (each-cell IsSound es (λ e k. k.sound) h.each);
  some = all-held (λ (c : Cell). 0 < c.count) es s (each-cell (λ (c : Cell). 0 < c.count) es (λ e k. k.some) h.each);
}
