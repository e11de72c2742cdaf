-- Going over cells one by one, and adding them.
use Rattle.std.proofs.Common.{◌≡◌, ℕ, ℤ, zero, suc, ◌+◌, ◌≤◌, ◌<◌, ◌^◌, ◌==◌, Bool, cond, true, false, List, [], ◌∷◌, ◌++◌, length, get_or, take, refl, sym, ap, ◌∙◌, append-nil, arith}
use Rattle.std.specs.List.{fold}
use Rattle.std.specs.Ordering.{int_eq}
use Rattle.std.proofs.lemmas.Bool.{eq-eqb, ne_eqb}
use Rattle.std.proofs.lemmas.List.{take_more, get_or_default}
use Rattle.std.proofs.lemmas.List.Sums.{fold-append}
use Rattle.as_base.specs.declared.fragment.Cell.{Cell}
use Rattle.group_table.specs.declared.small.Entry.{Entry}
use Rattle.group_table.specs.Cells.{add_in, sums, count_at}
use Rattle.group_table.specs.Held.{held, none, AreEntries}
use Rattle.group_table.specs.Steps.{added, merged}
use Rattle.group_table.proofs.CellLaws.{merge}
use Rattle.group_table.proofs.SumLaws.{count-added, count-folded, count-sums, eq-to}
use Rattle.group_table.proofs.HeldLaws.{held-of, held-other, eq-self, eq-turn}

-- ---- entries

held-append : (es fs : List Entry) (s : ℕ) → held (es ++ fs) s ≡ held es s ++ held fs s
held-append [] fs s = refl
held-append (e ∷ es) fs s = go (e.slot == s) refl (held-append es fs s)
  where
    go : (t : Bool) → (e.slot == s) ≡ t → held (es ++ fs) s ≡ held es s ++ held fs s → held (e ∷ (es ++ fs)) s ≡ held (e ∷ es) s ++ held fs s
    go true p h = held-of e (es ++ fs) s p ∙ ap (λ l. e.cell ∷ l) h ∙ sym (ap (λ l. l ++ held fs s) (held-of e es s p))
    go false p h = held-other e (es ++ fs) s p ∙ h ∙ sym (ap (λ l. l ++ held fs s) (held-other e es s p))

pub held-here : (es : List Entry) (i : ℕ) (e : Entry) (s : ℕ) → i < length es → e ≡ get_or es i e → (e.slot == s) ≡ true → held (take (i + 1) es) s ≡ held (take i es) s ++ e.cell ∷ []
held-here es i e s low is p = ap (λ l. held l s) (take_more es i e low ∙ ap (λ x. take i es ++ x ∷ []) (sym is)) ∙ held-append (take i es) (e ∷ []) s ∙ ap (λ l. held (take i es) s ++ l) (held-of e [] s p)

pub held-passed : (es : List Entry) (i : ℕ) (e : Entry) (s : ℕ) → i < length es → e ≡ get_or es i e → (e.slot == s) ≡ false → held (take (i + 1) es) s ≡ held (take i es) s
held-passed es i e s low is p =
    ap (λ l. held l s) (take_more es i e low ∙ ap (λ x. take i es ++ x ∷ []) (sym is)) ∙ held-append (take i es) (e ∷ []) s ∙ ap (λ l. held (take i es) s ++ l) (held-other e [] s p) ∙ append-nil (held (take i es) s)

-- with one entry more, one slot has one cell more
pub sums-held : (es : List Entry) (i : ℕ) (e : Entry) (s : ℕ) → i < length es → e ≡ get_or es i e
    → sums (held (take (i + 1) es) s) ≡ cond (s == e.slot) (add_in (sums (held (take i es) s)) e.cell) (sums (held (take i es) s))
sums-held es i e s low is = go (e.slot == s) refl
  where
    go : (t : Bool) → (e.slot == s) ≡ t → sums (held (take (i + 1) es) s) ≡ cond (s == e.slot) (add_in (sums (held (take i es) s)) e.cell) (sums (held (take i es) s))
    go true p =
        ap sums (held-here es i e s low is p) ∙ fold-append add_in [] (held (take i es) s) (e.cell ∷ [])
        ∙ sym (ap (λ t. cond t (add_in (sums (held (take i es) s)) e.cell) (sums (held (take i es) s))) (eq-turn s e.slot ∙ p))
    go false p =
        ap sums (held-passed es i e s low is p) ∙ sym (ap (λ t. cond t (add_in (sums (held (take i es) s)) e.cell) (sums (held (take i es) s))) (eq-turn s e.slot ∙ p))

-- what the cells up to an entry and its own count is part of what all count
pub count-part : (es : List Entry) (i : ℕ) (e : Entry) (s : ℕ) (g : ℤ) → i < length es → e ≡ get_or es i e → (e.slot == s) ≡ true → g ≡ e.cell.group
    → count_at (held (take i es) s) g + e.cell.count ≤ count_at (held es s) g
count-part [] i e s g low is p q = absurd (omega (arith, low))
count-part (x ∷ es) zero e s g low is p q =
    let a = ap (λ l. count_at l g) (held-of x es s (ap (λ (y : Entry). y.slot == s) (sym is) ∙ p)) in
    let b = ap (λ (y : Entry). y.cell.count) is in
    let d = ap (λ t. cond {A = ℕ} t x.cell.count 0) (eq-to x.cell.group g (ap (λ (y : Entry). y.cell.group) (sym is) ∙ sym q)) in
    omega (arith, a, b, d)
count-part (x ∷ es) (suc i) e s g low is p q = go (x.slot == s) refl (count-part es i e s g (omega (arith, low)) is p q)
  where
    go : (t : Bool) → (x.slot == s) ≡ t → count_at (held (take i es) s) g + e.cell.count ≤ count_at (held es s) g → count_at (held (x ∷ take i es) s) g + e.cell.count ≤ count_at (held (x ∷ es) s) g
    go true r h = let a = ap (λ l. count_at l g) (held-of x (take i es) s r) in let b = ap (λ l. count_at l g) (held-of x es s r) in omega (arith, a, b, h)
    go false r h = let a = ap (λ l. count_at l g) (held-other x (take i es) s r) in let b = ap (λ l. count_at l g) (held-other x es s r) in omega (arith, a, b, h)

-- ---- merging

-- no group comes to too many records
pub merged-few : (start now : ℕ → List Cell) (slot : ℕ) (xs : List Cell) (c : Cell) (most : ℕ) → now slot ≡ merged start slot xs slot → (slot == slot) ≡ true → count_at xs c.group + c.count ≤ most
    → count_at (start slot) c.group + most ≤ 2 ^ 62 → count_at (now slot) c.group + c.count ≤ 2 ^ 62
merged-few start now slot xs c most h own part all =
    let is : now slot ≡ fold add_in (start slot) xs = h ∙ ap (λ t. cond t (fold add_in (start slot) xs) (start slot)) own in
    let a = ap (λ l. count_at l c.group) is in
    let b = count-folded c.group xs (start slot) in
    omega (arith, a, b, part, all)

-- ---- as the loops need it

pub own-at : {X : Type 0} (xs : List X) (i : ℕ) (d : X) → i < length xs → get_or xs i d ≡ get_or xs i (get_or xs i d)
own-at xs i d low = get_or_default xs i d (get_or xs i d) low

pub entry-here : (es : List Entry) (i s : ℕ) → i < length es → (get_or es i none).slot ≡ s → held (take (i + 1) es) s ≡ held (take i es) s ++ (get_or es i none).cell ∷ []
entry-here es i s low at = held-here es i (get_or es i none) s low (own-at es i none low) (eq-eqb (get_or es i none).slot s at)

pub entry-passed : (es : List Entry) (i s : ℕ) → i < length es → ((get_or es i none).slot ≡ s → ⊥) → held (take (i + 1) es) s ≡ held (take i es) s
entry-passed es i s low other = held-passed es i (get_or es i none) s low (own-at es i none low) (ne_eqb (get_or es i none).slot s other)

pub entry-part : (es : List Entry) (i s : ℕ) → i < length es → (get_or es i none).slot ≡ s → count_at (held (take i es) s) (get_or es i none).cell.group + (get_or es i none).cell.count ≤ count_at (held es s) (get_or es i none).cell.group
entry-part es i s low at = count-part es i (get_or es i none) s (get_or es i none).cell.group low (own-at es i none low) (eq-eqb (get_or es i none).slot s at) refl

pub entry-few : (es : List Entry) (i : ℕ) (l : List Cell) → AreEntries es → i < length es → l ≡ sums (held (take i es) (get_or es i none).slot) → count_at l (get_or es i none).cell.group + (get_or es i none).cell.count ≤ 2 ^ 62
entry-few es i l h low is =
    let e = get_or es i none in
    let a = entry-part es i e.slot low refl in
    let b = h.few e.slot e.cell.group in
    let d = ap (λ l. count_at l e.cell.group) is in
    let k = count-sums e.cell.group (held (take i es) e.slot) in
    omega (arith, a, b, d, k)

-- no group comes to too many records, where the cells of two slots together do not
pub merging-few : (start now : ℕ → List Cell) (slot : ℕ) (xs all : List Cell) (c : Cell) → now slot ≡ merged start slot xs slot → count_at xs c.group + c.count ≤ count_at all c.group
    → count_at (start slot) c.group + count_at all c.group ≤ 2 ^ 62 → count_at (now slot) c.group + c.count ≤ 2 ^ 62
merging-few start now slot xs all c h part most = merged-few start now slot xs c (count_at all c.group) h (eq-self slot) part most

-- to merge cells is to merge what they add up to
pub merged-sums : (start : ℕ → List Cell) (slot s : ℕ) (xs : List Cell) → merged start slot xs s ≡ merged start slot (sums xs) s
merged-sums start slot s xs = ap (λ l. cond (s == slot) l (start s)) (sym (merge (start s) xs))

-- a cell more in one slot counts no more than it counts
pub count-more : (start now : ℕ → List Cell) (slot s : ℕ) (c : Cell) (g : ℤ) → now s ≡ added start slot c s → count_at (now s) g ≤ count_at (start s) g + c.count
count-more start now slot s c g h = go (s == slot) h
  where
    go : (t : Bool) → now s ≡ cond t (add_in (start s) c) (start s) → count_at (now s) g ≤ count_at (start s) g + c.count
    go true e = let a = ap (λ l. count_at l g) e in let b = count-added g (start s) c in let k = part (int_eq c.group g) in omega (arith, a, b, k)
      where
        part : (t : Bool) → cond t c.count 0 ≤ c.count
        part true = omega arith
        part false = omega arith
    go false e = let a = ap (λ l. count_at l g) e in omega (arith, a)

-- what the cells before one and its own count is part of what all count
pub prefix-part : (cs : List Cell) (i : ℕ) (d : Cell) → i < length cs → count_at (take i cs) (get_or cs i d).group + (get_or cs i d).count ≤ count_at cs (get_or cs i d).group
prefix-part [] i d low = absurd (omega (arith, low))
prefix-part (c ∷ cs) zero d low = let a = ap (λ t. cond {A = ℕ} t c.count 0) (eq-to c.group c.group refl) in omega (arith, a)
prefix-part (c ∷ cs) (suc i) d low = let h = prefix-part cs i d (omega (arith, low)) in omega (arith, h)
