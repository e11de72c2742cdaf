-- Sorted cells, of which neighbours of one group are added up.
use Rattle.std.proofs.Common.{◌≡◌, inl, inr, ℕ, ℤ, zero, suc, ◌+◌, ◌-◌, ◌≤◌, ◌<◌, ◌^◌, true≢false, Bool, cond, true, false, int_lt, List, [], ◌∷◌, length, get_or, set, take, drop, refl, sym, ap, subst, ◌∙◌, drop-drop, ◌&&◌, nat_lt, ap₂, arith}
use Rattle.std.specs.List.{fold, AllByRecursion}
use Rattle.std.specs.List.Sorted.{IsPermutation}
use Rattle.std.specs.Ordering.{int_eq}
use Rattle.std.proofs.lemmas.Bool.{cases_eq, and_parts, ltb-true, lt-ltb}
use Rattle.std.proofs.lemmas.Int.{ints}
use Rattle.std.proofs.lemmas.List.{take_more, get_or_default}
use Rattle.std.proofs.lemmas.List.Edits.{swap_is}
use Rattle.std.proofs.lemmas.List.Sorted.{IsPermutation-keeps}
use Rattle.std.proofs.lemmas.List.Sums.{fold-append}
use Rattle.as_base.specs.declared.fragment.Cell.{Cell}
use Rattle.group_table.specs.Cells.{blank, plus, add_in, sums, count_at, IsSound, IsRising, NeverFalls}
use Rattle.group_table.proofs.CellLaws.{cases_group, lt_through, lt_self, past, here, one}
use Rattle.group_table.proofs.SumLaws.{eq-from, eq-to, count-sums, IsAbove}
use Rattle.group_table.proofs.HeldLaws.{sound-plus}
use Rattle.group_table.proofs.ListLaws.{all-at, all-set}
use Rattle.group_table.proofs.MergeLaws.{prefix-part}

-- ---- a fact of all cells that add up

module _ (P : Cell → Type 0) (both : (c d : Cell) → P c → P d → P (plus c d)) where
  all-added : (l : List Cell) (c : Cell) → AllByRecursion P l → P c → AllByRecursion P (add_in l c)
  all-added [] c h one_is = (one_is, tt)
  all-added (d ∷ ds) c h one_is = elim (cases_group d.group c.group) [
    | inl e ↦ subst (AllByRecursion P) (sym (past d ds c e)) (h.0, all-added ds c h.1 one_is)
    | inr (inl e) ↦ subst (AllByRecursion P) (sym (here d ds c e)) (one_is, h)
    | inr (inr e) ↦ subst (AllByRecursion P) (sym (one d ds c e)) (both d c h.0 one_is, h.1)
  ]

  all-folded : (cs l : List Cell) → AllByRecursion P l → AllByRecursion P cs → AllByRecursion P (fold add_in l cs)
  all-folded [] l h k = h
  all-folded (c ∷ cs) l h k = all-folded cs (add_in l c) (all-added l c h k.0) k.1

all-take : {X : Type 0} (P : X → Type 0) (xs : List X) (i : ℕ) → AllByRecursion P xs → AllByRecursion P (take i xs)
all-take P [] i h = take-none i
  where
    take-none : (i : ℕ) → AllByRecursion P (take i [])
    take-none zero = tt
    take-none (suc i) = tt
all-take P (x ∷ xs) zero h = tt
all-take P (x ∷ xs) (suc i) h = (h.0, all-take P xs i h.1)

-- ---- a sort

pub sound-permuted : (xs ys : List Cell) → IsPermutation xs ys → AllByRecursion IsSound xs → AllByRecursion IsSound ys
sound-permuted xs ys moved h = IsPermutation-keeps xs (AllByRecursion IsSound) h (λ l i j p q k.
    let d : Cell = get_or l i blank in
    subst (AllByRecursion IsSound) (swap_is l i j d p q)
    (all-set IsSound (set l i (get_or l j d)) j (get_or l i d) (all-set IsSound l i (get_or l j d) k (all-at IsSound l j d q k)) (all-at IsSound l i d p k))) ys moved

not-through : (a b c : ℤ) → int_lt b a ≡ false → int_lt c b ≡ false → int_lt c a ≡ false
not-through a b c e f = grind (arith, ints)

-- no later cell is below the first
first-least : (cs : List Cell) (k : ℕ) (d : Cell) → NeverFalls cs → k < length cs → int_lt (get_or cs k d).group (get_or cs 0 d).group ≡ false
first-least cs zero d h low = lt_self (get_or cs 0 d).group (get_or cs 0 d).group refl
first-least cs (suc k) d h low =
    not-through (get_or cs 0 d).group (get_or cs k d).group (get_or cs (suc k) d).group (first-least cs k d h (omega (arith, low))) (h k (suc k) d (omega arith) low)

falls-rest : (c : Cell) (cs : List Cell) → NeverFalls (c ∷ cs) → NeverFalls cs
falls-rest c cs h = λ k j d e l. h (suc k) (suc j) d (omega (arith, e)) (omega (arith, l))

-- the cells before one are not above it
not-above : (cs : List Cell) (i : ℕ) (d : Cell) → NeverFalls cs → i < length cs → AllByRecursion (λ (held : Cell). int_lt (get_or cs i d).group held.group ≡ false) (take i cs)
not-above [] i d h low = absurd (omega (arith, low))
not-above (c ∷ cs) zero d h low = tt
not-above (c ∷ cs) (suc i) d h low = (first-least (c ∷ cs) (suc i) d h low, not-above cs i d (falls-rest c cs h) (omega (arith, low)))

-- ---- one cell behind

above-at : (g : ℤ) (cs : List Cell) (k : ℕ) (d : Cell) → k < length cs → IsAbove g (take (k + 1) cs) → int_lt g (get_or cs k d).group ≡ true
above-at g [] k d low h = absurd (omega (arith, low))
above-at g (c ∷ cs) zero d low h = h.0
above-at g (c ∷ cs) (suc k) d low h = above-at g cs k d (omega (arith, low)) (subst (IsAbove g) (let e : suc k + 1 ≡ suc (k + 1) = omega arith in ap (λ n. take n (c ∷ cs)) e) h).1

-- added to the last one, which is of its group
join-last : (cs : List Cell) (k : ℕ) (c d : Cell) → k < length cs → IsRising (take (k + 1) cs) → (get_or cs k d).group ≡ c.group
    → take (k + 1) (set cs k (plus (get_or cs k d) c)) ≡ add_in (take (k + 1) cs) c
join-last [] k c d low r e = absurd (omega (arith, low))
join-last (x ∷ cs) zero c d low r e = sym (one x [] c e)
join-last (x ∷ cs) (suc k) c d low r e =
    let n : suc k + 1 ≡ suc (k + 1) = omega arith in
    let rising = subst IsRising (ap (λ n. take n (x ∷ cs)) n) r in
    let below : int_lt x.group c.group ≡ true = subst (λ g. int_lt x.group g ≡ true) e (above-at x.group cs k d (omega (arith, low)) rising.0) in
    ap (λ n. take n (x ∷ set cs k (plus (get_or cs k d) c))) n
    ∙ ap (λ l. x ∷ l) (join-last cs k c d (omega (arith, low)) rising.1 e)
    ∙ sym (past x (take (k + 1) cs) c below)
    ∙ sym (ap (λ n. add_in (take n (x ∷ cs)) c) n)

-- put behind those that are below it
put-last : (cs : List Cell) (k : ℕ) (c : Cell) → k < length cs → AllByRecursion (λ (d : Cell). int_lt d.group c.group ≡ true) (take k cs) → take (k + 1) (set cs k c) ≡ add_in (take k cs) c
put-last [] k c low h = absurd (omega (arith, low))
put-last (x ∷ cs) zero c low h = refl
put-last (x ∷ cs) (suc k) c low h =
    let n : suc k + 1 ≡ suc (k + 1) = omega arith in
    ap (λ n. take n (x ∷ set cs k c)) n ∙ ap (λ l. x ∷ l) (put-last cs k c (omega (arith, low)) h.1) ∙ sym (past x (take k cs) c h.0)

-- where the last one is below, all are
below-all : (cs : List Cell) (k : ℕ) (d : Cell) (g : ℤ) → k < length cs → IsRising (take (k + 1) cs) → int_lt (get_or cs k d).group g ≡ true → AllByRecursion (λ (x : Cell). int_lt x.group g ≡ true) (take (k + 1) cs)
below-all [] k d g low r e = absurd (omega (arith, low))
below-all (x ∷ cs) zero d g low r e = (e, tt)
below-all (x ∷ cs) (suc k) d g low r e =
    let n : suc k + 1 ≡ suc (k + 1) = omega arith in
    let rising = subst IsRising (ap (λ n. take n (x ∷ cs)) n) r in
    subst (λ n. AllByRecursion (λ (x : Cell). int_lt x.group g ≡ true) (take n (x ∷ cs))) (sym n)
    (lt_through x.group (get_or cs k d).group g (above-at x.group cs k d (omega (arith, low)) rising.0) e, below-all cs k d g (omega (arith, low)) rising.1 e)

last-of : (P : Cell → Type 0) (cs : List Cell) (k : ℕ) (d : Cell) → k < length cs → AllByRecursion P (take (k + 1) cs) → P (get_or cs k d)
last-of P [] k d low h = absurd (omega (arith, low))
last-of P (x ∷ cs) zero d low h = h.0
last-of P (x ∷ cs) (suc k) d low h = last-of P cs k d (omega (arith, low)) (subst (λ n. AllByRecursion P (take n (x ∷ cs))) (let e : suc k + 1 ≡ suc (k + 1) = omega arith in e) h).1

less : (a b : ℤ) → int_lt b a ≡ false → (a ≡ b → ⊥) → int_lt a b ≡ true
less a b e n = elim (cases_group a b) [
  | inl l ↦ l
  | inr (inl l) ↦ absurd (true≢false (sym l ∙ e))
  | inr (inr l) ↦ absurd (n l)
]

-- ---- as the call needs it

-- whether there is a last one, of the group
abbrev pub last_is : List Cell → ℕ → ℤ → Bool
last_is cs kept g = nat_lt 0 kept && int_eq (get_or cs (kept - 1) blank).group g

some-of : (cs : List Cell) (kept : ℕ) (g : ℤ) → last_is cs kept g ≡ true → (0 < kept) × ((get_or cs (kept - 1) blank).group ≡ g)
some-of cs kept g e =
    let p = and_parts (nat_lt 0 kept) (int_eq (get_or cs (kept - 1) blank).group g) e in
    (ltb-true 0 kept p.0, eq-from (get_or cs (kept - 1) blank).group g p.1)

at-blank : (cs : List Cell) (i : ℕ) (x : Cell) → i < length cs → x ≡ get_or cs i x → x ≡ get_or cs i blank
at-blank cs i x low e = e ∙ get_or_default cs i x blank low

-- the last one is of the group
pub joined-last : (cs : List Cell) (kept : ℕ) (c held new : Cell) → last_is cs kept c.group ≡ true → kept < length cs → IsRising (take kept cs) → held ≡ get_or cs (kept - 1) held → new ≡ plus held c
    → take kept (set cs (kept - 1) new) ≡ add_in (take kept cs) c
joined-last cs kept c held new last low r is made =
    let p = some-of cs kept c.group last in
    let some = p.0 in
    let k = kept - 1 in
    let n : kept ≡ k + 1 = omega (arith, some) in
    let at = at-blank cs k held (omega (arith, some, low)) is in
    ap (λ x. take kept (set cs k x)) (made ∙ ap (λ h. plus h c) at)
    ∙ ap (λ n. take n (set cs k (plus (get_or cs k blank) c))) n
    ∙ join-last cs k c blank (omega (arith, some, low)) (subst (λ n. IsRising (take n cs)) n r) p.1
    ∙ sym (ap (λ n. add_in (take n cs) c) n)

-- none is kept, or the last one is of another group
pub put-other : (cs : List Cell) (kept : ℕ) (c : Cell) → last_is cs kept c.group ≡ false → kept < length cs → IsRising (take kept cs) → AllByRecursion (λ (x : Cell). int_lt c.group x.group ≡ false) (take kept cs)
    → take (kept + 1) (set cs kept c) ≡ add_in (take kept cs) c
put-other cs kept c last low r order = elim (cases_eq kept 0) [
  | inl e ↦ put-last cs kept c low (subst (λ n. AllByRecursion (λ (d : Cell). int_lt d.group c.group ≡ true) (take n cs)) (sym e) tt)
  | inr m ↦
      let some : 0 < kept = omega (arith, m) in
      let k = kept - 1 in
      let n : kept ≡ k + 1 = omega (arith, some) in
      let least : int_lt c.group (get_or cs k blank).group ≡ false = last-of (λ (x : Cell). int_lt c.group x.group ≡ false) cs k blank (omega (arith, some, low)) (subst (λ n. AllByRecursion (λ (x : Cell). int_lt c.group x.group ≡ false) (take n cs)) n order) in
      let other : ((get_or cs k blank).group ≡ c.group → ⊥) = λ e. true≢false (sym (ap₂ (λ t u. t && u) (lt-ltb 0 kept some) (eq-to (get_or cs k blank).group c.group e)) ∙ last) in
      let below = less (get_or cs k blank).group c.group least other in
      put-last cs kept c low
      (subst (λ n. AllByRecursion (λ (x : Cell). int_lt x.group c.group ≡ true) (take n cs)) (sym n)
      (below-all cs k blank c.group (omega (arith, some, low)) (subst (λ n. IsRising (take n cs)) n r) below))
]

-- what the last one counts is part of what the first ones count
last-part : (cs : List Cell) (k : ℕ) (d : Cell) → k < length cs → (get_or cs k d).count ≤ count_at (take (k + 1) cs) (get_or cs k d).group
last-part [] k d low = absurd (omega (arith, low))
last-part (c ∷ cs) zero d low = let a = ap (λ t. cond {A = ℕ} t c.count 0) (eq-to c.group c.group refl) in omega (arith, a)
last-part (c ∷ cs) (suc k) d low =
    let n : suc k + 1 ≡ suc (k + 1) = omega arith in
    subst (λ n. (get_or cs k d).count ≤ count_at (take n (c ∷ cs)) (get_or cs k d).group) (sym n) (let h = last-part cs k d (omega (arith, low)) in omega (arith, h))

pub few-last : (cs : List Cell) (kept : ℕ) (c held : Cell) → last_is cs kept c.group ≡ true → kept < length cs → held ≡ get_or cs (kept - 1) held → count_at (take kept cs) c.group + c.count ≤ 2 ^ 62 → held.count + c.count ≤ 2 ^ 62
few-last cs kept c held last low is few =
    let p = some-of cs kept c.group last in
    let some = p.0 in
    let k = kept - 1 in
    let n : kept ≡ k + 1 = omega (arith, some) in
    let a = last-part cs k blank (omega (arith, some, low)) in
    let b = ap (λ (x : Cell). x.count) (at-blank cs k held (omega (arith, some, low)) is) in
    let f = ap (λ n. count_at (take n cs) c.group) n in
    let h = ap (count_at (take (k + 1) cs)) p.1 in
    omega (arith, a, b, f, h, few)

pub sound-last : (cs : List Cell) (kept : ℕ) (c held : Cell) → last_is cs kept c.group ≡ true → kept < length cs → held ≡ get_or cs (kept - 1) held → AllByRecursion IsSound (take kept cs) → IsSound held
sound-last cs kept c held last low is h =
    let p = some-of cs kept c.group last in
    let some = p.0 in
    let n : kept ≡ (kept - 1) + 1 = omega (arith, some) in
    subst IsSound (sym (at-blank cs (kept - 1) held (omega (arith, some, low)) is))
    (last-of IsSound cs (kept - 1) blank (omega (arith, some, low)) (subst (λ n. AllByRecursion IsSound (take n cs)) n h))

-- ---- over all cells

-- the sums of the cells before one, and that one
pub sums-next : (cs : List Cell) (i : ℕ) (d : Cell) → i < length cs → sums (take (i + 1) cs) ≡ add_in (sums (take i cs)) (get_or cs i d)
sums-next cs i d low = ap sums (take_more cs i d low) ∙ fold-append add_in [] (take i cs) (get_or cs i d ∷ [])

pub sound-sums : (cs : List Cell) (i : ℕ) → AllByRecursion IsSound cs → AllByRecursion IsSound (sums (take i cs))
sound-sums cs i h = all-folded IsSound sound-plus (take i cs) [] tt (all-take IsSound cs i h)

pub order-sums : (cs : List Cell) (i : ℕ) (d : Cell) → NeverFalls cs → i < length cs → AllByRecursion (λ (held : Cell). int_lt (get_or cs i d).group held.group ≡ false) (sums (take i cs))
order-sums cs i d h low = all-folded (λ (held : Cell). int_lt (get_or cs i d).group held.group ≡ false) (λ c d e f. e) (take i cs) [] tt (not-above cs i d h low)

pub few-sums : (cs : List Cell) (i : ℕ) (d : Cell) → i < length cs → ((g : ℤ) → count_at cs g ≤ 2 ^ 62) → count_at (sums (take i cs)) (get_or cs i d).group + (get_or cs i d).count ≤ 2 ^ 62
few-sums cs i d low few =
    let g = (get_or cs i d).group in
    let a = prefix-part cs i d low in
    let b = count-sums g (take i cs) in
    let f = few g in
    omega (arith, a, b, f)

-- ---- as the loop needs it

head-drop : (cs : List Cell) (i : ℕ) (d : Cell) → get_or cs i d ≡ get_or (drop i cs) 0 d
head-drop [] zero d = refl
head-drop [] (suc i) d = refl
head-drop (c ∷ cs) zero d = refl
head-drop (c ∷ cs) (suc i) d = head-drop cs i d

-- the next cell is still as it was
pub still-at : (cs ys : List Cell) (i : ℕ) (x : Cell) → drop i ys ≡ drop i cs → x ≡ get_or ys i x → x ≡ get_or cs i x
still-at cs ys i x e is = is ∙ head-drop ys i x ∙ ap (λ l. get_or l 0 x) e ∙ sym (head-drop cs i x)

later-same : (xs ys : List Cell) (a b : ℕ) → a ≤ b → drop a xs ≡ drop a ys → drop b xs ≡ drop b ys
later-same xs ys a b le e =
    let n : b ≡ a + (b - a) = omega (arith, le) in
    ap (λ n. drop n xs) n ∙ sym (drop-drop (b - a) a xs) ∙ ap (drop (b - a)) e ∙ drop-drop (b - a) a ys ∙ sym (ap (λ n. drop n ys) n)

module _ (cs ys : List Cell) (i kept : ℕ) (x : Cell) (low : i < length cs) (rest : drop i ys ≡ drop i cs) (is : x ≡ get_or ys i x) (done : take kept ys ≡ sums (take i cs)) where
  pub order-step : NeverFalls cs → AllByRecursion (λ (held : Cell). int_lt x.group held.group ≡ false) (take kept ys)
  order-step h =
      subst (AllByRecursion (λ (held : Cell). int_lt x.group held.group ≡ false)) (sym done)
      (subst (λ (y : Cell). AllByRecursion (λ (held : Cell). int_lt y.group held.group ≡ false) (sums (take i cs))) (sym (still-at cs ys i x rest is)) (order-sums cs i x h low))

  pub few-step : ((g : ℤ) → count_at cs g ≤ 2 ^ 62) → count_at (take kept ys) x.group + x.count ≤ 2 ^ 62
  few-step few =
      subst (λ l. count_at l x.group + x.count ≤ 2 ^ 62) (sym done)
      (subst (λ (y : Cell). count_at (sums (take i cs)) y.group + y.count ≤ 2 ^ 62) (sym (still-at cs ys i x rest is)) (few-sums cs i x low few))

  pub done-step : (new : List Cell) (more : ℕ) → take more new ≡ add_in (take kept ys) x → take more new ≡ sums (take (i + 1) cs)
  done-step new more e = e ∙ ap (λ l. add_in l x) done ∙ ap (add_in (sums (take i cs))) (still-at cs ys i x rest is) ∙ sym (sums-next cs i x low)

  pub rest-step : (new : List Cell) → kept ≤ i → drop (kept + 1) new ≡ drop (kept + 1) ys → drop (i + 1) new ≡ drop (i + 1) cs
  rest-step new most e = later-same new ys (kept + 1) (i + 1) (omega (arith, most)) e ∙ later-same ys cs i (i + 1) (omega arith) rest
