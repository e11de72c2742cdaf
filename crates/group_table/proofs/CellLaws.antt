-- Laws of cells added by group: in whatever order they are added, they come to the same.
use Rattle.std.proofs.Common.{◌≡◌, ◌⊎◌, inl, inr, ℕ, ℤ, ◌+ℤ◌, ◌+◌, Bool, cond, true, false, int_lt, List, [], ◌∷◌, refl, sym, ap, subst, ◌∙◌, arith}
use Rattle.std.proofs.lemmas.Int.{ints}
use Rattle.std.specs.List.{fold}
use Rattle.as_base.specs.declared.fragment.Cell.{Cell}
use Rattle.group_table.specs.Cells.{plus, add_in, sums}

pub lt_not : (a b : ℤ) → int_lt a b ≡ true → int_lt b a ≡ false
lt_not a b e = grind (arith, ints)

pub lt_self : (a b : ℤ) → a ≡ b → int_lt a b ≡ false
lt_self a b e = grind (arith, ints)

pub lt_through : (a b c : ℤ) → int_lt a b ≡ true → int_lt b c ≡ true → int_lt a c ≡ true
lt_through a b c e f = grind (arith, ints)

lt_same : (a b : ℤ) → int_lt a b ≡ false → int_lt b a ≡ false → a ≡ b
lt_same a b e f = omega (arith, ints)

pub cases_group : (a b : ℤ) → (int_lt a b ≡ true) ⊎ ((int_lt b a ≡ true) ⊎ (a ≡ b))
cases_group a b = go (int_lt a b) (int_lt b a) refl refl
  where
    go : (c d : Bool) → int_lt a b ≡ c → int_lt b a ≡ d → (int_lt a b ≡ true) ⊎ ((int_lt b a ≡ true) ⊎ (a ≡ b))
    go true d e f = inl e
    go false true e f = inr (inl f)
    go false false e f = inr (inr (lt_same a b e f))

abbrev mk : ℤ → ℤ → ℕ → Cell
mk g s n = record { group = g; sum = s; count = n }

pub plus_turn : (c d : Cell) → c.group ≡ d.group → plus c d ≡ plus d c
plus_turn c d e = ap (λ g. mk g (c.sum +ℤ d.sum) (c.count + d.count)) e ∙ ap (λ s. mk d.group s (c.count + d.count)) (omega (arith, ints)) ∙ ap (mk d.group (d.sum +ℤ c.sum)) (omega arith)

plus_swap : (z c d : Cell) → plus (plus z c) d ≡ plus (plus z d) c
plus_swap z c d = ap (λ s. mk z.group s ((z.count + c.count) + d.count)) (omega (arith, ints)) ∙ ap (mk z.group ((z.sum +ℤ d.sum) +ℤ c.sum)) (omega arith)

plus_assoc : (z c d : Cell) → plus z (plus c d) ≡ plus (plus z c) d
plus_assoc z c d = ap (λ s. mk z.group s (z.count + (c.count + d.count))) (omega (arith, ints)) ∙ ap (mk z.group ((z.sum +ℤ c.sum) +ℤ d.sum)) (omega arith)

pub past : (d : Cell) (ds : List Cell) (c : Cell) → int_lt d.group c.group ≡ true → add_in (d ∷ ds) c ≡ d ∷ add_in ds c
past d ds c e = ap (λ b. cond b (d ∷ add_in ds c) (cond (int_lt c.group d.group) (c ∷ d ∷ ds) (plus d c ∷ ds))) e

pub here : (d : Cell) (ds : List Cell) (c : Cell) → int_lt c.group d.group ≡ true → add_in (d ∷ ds) c ≡ c ∷ d ∷ ds
here d ds c e = ap (λ b. cond b (d ∷ add_in ds c) (cond (int_lt c.group d.group) (c ∷ d ∷ ds) (plus d c ∷ ds))) (lt_not c.group d.group e) ∙ ap (λ b. cond b (c ∷ d ∷ ds) (plus d c ∷ ds)) e

pub one : (d : Cell) (ds : List Cell) (c : Cell) → d.group ≡ c.group → add_in (d ∷ ds) c ≡ plus d c ∷ ds
one d ds c e = ap (λ b. cond b (d ∷ add_in ds c) (cond (int_lt c.group d.group) (c ∷ d ∷ ds) (plus d c ∷ ds))) (lt_self d.group c.group e) ∙ ap (λ b. cond b (c ∷ d ∷ ds) (plus d c ∷ ds)) (lt_self c.group d.group (sym e))

-- two that both come before the rest
front : (x y : Cell) (t : List Cell) → add_in t x ≡ x ∷ t → add_in t y ≡ y ∷ t → add_in (x ∷ t) y ≡ add_in (y ∷ t) x
front x y t e f = elim (cases_group x.group y.group) [
  | inl l ↦ past x t y l ∙ ap (λ k. x ∷ k) f ∙ sym (here y t x l)
  | inr (inl l) ↦ here x t y l ∙ sym (past y t x l ∙ ap (λ k. y ∷ k) e)
  | inr (inr l) ↦ one x t y l ∙ ap (λ c. c ∷ t) (plus_turn x y l) ∙ sym (one y t x (sym l))
]

-- two cells may be added in either order
pub add_free : (b : List Cell) (x y : Cell) → add_in (add_in b x) y ≡ add_in (add_in b y) x
add_free [] x y = front x y [] refl refl
add_free (z ∷ l) x y = elim (cases_group z.group x.group) [
  | inl a ↦ elim (cases_group z.group y.group) [
    | inl b ↦ ap (λ k. add_in k y) (past z l x a) ∙ past z (add_in l x) y b ∙ ap (λ k. z ∷ k) (add_free l x y) ∙ sym (ap (λ k. add_in k x) (past z l y b) ∙ past z (add_in l y) x a)
    | inr (inl b) ↦ lower y x b a
    | inr (inr b) ↦ equal y x b a
  ]
  | inr (inl a) ↦ elim (cases_group z.group y.group) [
    | inl b ↦ sym (lower x y a b)
    | inr (inl b) ↦ ap (λ k. add_in k y) (here z l x a) ∙ front x y (z ∷ l) (here z l x a) (here z l y b) ∙ sym (ap (λ k. add_in k x) (here z l y b))
    | inr (inr b) ↦ ap (λ k. add_in k y) (here z l x a) ∙ past x (z ∷ l) y (subst (λ g. int_lt x.group g ≡ true) b a) ∙ ap (λ k. x ∷ k) (one z l y b) ∙ sym (ap (λ k. add_in k x) (one z l y b) ∙ here (plus z y) l x a)
  ]
  | inr (inr a) ↦ elim (cases_group z.group y.group) [
    | inl b ↦ sym (equal x y a b)
    | inr (inl b) ↦ sym (ap (λ k. add_in k x) (here z l y b) ∙ past y (z ∷ l) x (subst (λ g. int_lt y.group g ≡ true) a b) ∙ ap (λ k. y ∷ k) (one z l x a) ∙ sym (ap (λ k. add_in k y) (one z l x a) ∙ here (plus z x) l y b))
    | inr (inr b) ↦ ap (λ k. add_in k y) (one z l x a) ∙ one (plus z x) l y b ∙ ap (λ c. c ∷ l) (plus_swap z x y) ∙ sym (ap (λ k. add_in k x) (one z l y b) ∙ one (plus z y) l x a)
  ]
]
  where
    lower : (y x : Cell) → int_lt y.group z.group ≡ true → int_lt z.group x.group ≡ true → add_in (add_in (z ∷ l) x) y ≡ add_in (add_in (z ∷ l) y) x
    lower y x b a = ap (λ k. add_in k y) (past z l x a) ∙ here z (add_in l x) y b ∙ sym (ap (λ k. add_in k x) (here z l y b) ∙ past y (z ∷ l) x (lt_through y.group z.group x.group b a) ∙ ap (λ k. y ∷ k) (past z l x a))

    equal : (y x : Cell) → z.group ≡ y.group → int_lt z.group x.group ≡ true → add_in (add_in (z ∷ l) x) y ≡ add_in (add_in (z ∷ l) y) x
    equal y x b a = ap (λ k. add_in k y) (past z l x a) ∙ one z (add_in l x) y b ∙ sym (ap (λ k. add_in k x) (one z l y b) ∙ past (plus z y) l x a)

-- a first cell may as well be added last
pub fold_last : (b : List Cell) (x : Cell) (xs : List Cell) → fold add_in (add_in b x) xs ≡ add_in (fold add_in b xs) x
fold_last b x [] = refl
fold_last b x (y ∷ xs) = ap (λ k. fold add_in k xs) (add_free b x y) ∙ fold_last (add_in b y) x xs

-- a sum of two is added at once or one after the other
pub add_plus : (b : List Cell) (z c : Cell) → z.group ≡ c.group → add_in b (plus z c) ≡ add_in (add_in b z) c
add_plus [] z c e = sym (one z [] c e)
add_plus (w ∷ b) z c e = elim (cases_group w.group z.group) [
  | inl l ↦ past w b (plus z c) l ∙ ap (λ k. w ∷ k) (add_plus b z c e) ∙ sym (ap (λ k. add_in k c) (past w b z l) ∙ past w (add_in b z) c (subst (λ g. int_lt w.group g ≡ true) e l))
  | inr (inl l) ↦ here w b (plus z c) l ∙ sym (ap (λ k. add_in k c) (here w b z l) ∙ one z (w ∷ b) c e)
  | inr (inr l) ↦ one w b (plus z c) l ∙ ap (λ d. d ∷ b) (plus_assoc w z c) ∙ sym (ap (λ k. add_in k c) (one w b z l) ∙ one (plus w z) b c (l ∙ e))
]

-- a cell added to the cells that are merged
pub add_in_in : (l : List Cell) (b : List Cell) (c : Cell) → fold add_in b (add_in l c) ≡ add_in (fold add_in b l) c
add_in_in [] b c = refl
add_in_in (z ∷ l) b c = elim (cases_group z.group c.group) [
  | inl e ↦ ap (fold add_in b) (past z l c e) ∙ add_in_in l (add_in b z) c
  | inr (inl e) ↦ ap (fold add_in b) (here z l c e) ∙ ap (λ k. fold add_in k l) (add_free b c z) ∙ fold_last (add_in b z) c l
  | inr (inr e) ↦ ap (fold add_in b) (one z l c e) ∙ ap (λ k. fold add_in k l) (add_plus b z c e) ∙ fold_last (add_in b z) c l
]

merge_onto : (cs l b : List Cell) → fold add_in b (fold add_in l cs) ≡ fold add_in (fold add_in b l) cs
merge_onto [] l b = refl
merge_onto (c ∷ cs) l b = merge_onto cs (add_in l c) b ∙ ap (λ k. fold add_in k cs) (add_in_in l b c)

-- to merge what some cells add up to is to add all of them
pub merge : (cs ds : List Cell) → fold add_in cs (sums ds) ≡ fold add_in cs ds
merge cs ds = merge_onto ds [] cs
