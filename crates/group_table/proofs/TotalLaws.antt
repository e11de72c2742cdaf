-- The number of all cells, where cells of one slot come or go.
use Rattle.std.proofs.Common.{◌≡◌, inl, inr, ℕ, zero, suc, ◌+◌, ◌≤◌, ◌<◌, ◌==◌, cond, List, [], ◌∷◌, length, refl, sym, ap, ◌∙◌, arith}
use Rattle.std.specs.List.{AllByRecursion}
use Rattle.std.proofs.lemmas.Bool.{cases_eq, eq-eqb, ne_eqb}
use Rattle.as_base.specs.declared.fragment.Cell.{Cell}
use Rattle.group_table.specs.declared.small.Entry.{Entry}
use Rattle.group_table.specs.Cells.{sums}
use Rattle.group_table.specs.Held.{held, IsEntry, AreEntries}
use Rattle.group_table.specs.Totals.{total_below, total}
use Rattle.group_table.proofs.SumLaws.{length-sums}
use Rattle.group_table.proofs.HeldLaws.{length-held}

below-same : (n : ℕ) (f g : ℕ → List Cell) → ((s : ℕ) → length (g s) ≡ length (f s)) → total_below n g ≡ total_below n f
unfolding total_below
below-same zero f g h = refl
below-same (suc n) f g h = let a = below-same n f g h in let b = h n in omega (arith, a, b)

-- as many of each slot are as many
pub total-same : (f g : ℕ → List Cell) → ((s : ℕ) → length (g s) ≡ length (f s)) → total g ≡ total f
unfolding total
total-same f g h = below-same 512 f g h

past-step : (n slot k : ℕ) (f g : ℕ → List Cell) → ((s : ℕ) → length (g s) ≡ length (f s) + cond (s == slot) k 0) → n ≤ slot → total_below n g ≡ total_below n f
unfolding total_below
past-step zero slot k f g h le = refl
past-step (suc n) slot k f g h le =
    let a = past-step n slot k f g h (omega (arith, le)) in
    let b = h n in
    let e = ap (λ t. cond {A = ℕ} t k 0) (ne_eqb n slot (λ e. omega (arith, e, le))) in
    omega (arith, a, b, e)

below-step : (n slot k : ℕ) (f g : ℕ → List Cell) → ((s : ℕ) → length (g s) ≡ length (f s) + cond (s == slot) k 0) → slot < n → total_below n g ≡ total_below n f + k
unfolding total_below
below-step zero slot k f g h low = absurd (omega (arith, low))
below-step (suc n) slot k f g h low = elim (cases_eq n slot) [
  | inl e ↦
      let a = past-step n slot k f g h (omega (arith, e)) in
      let b = h n in
      let d = ap (λ t. cond {A = ℕ} t k 0) (eq-eqb n slot e) in
      omega (arith, a, b, d)
  | inr m ↦
      let a = below-step n slot k f g h (omega (arith, low, m)) in
      let b = h n in
      let d = ap (λ t. cond {A = ℕ} t k 0) (ne_eqb n slot m) in
      omega (arith, a, b, d)
]

-- so many more of one slot
pub total-step : (slot k : ℕ) (f g : ℕ → List Cell) → slot < 512 → ((s : ℕ) → length (g s) ≡ length (f s) + cond (s == slot) k 0) → total g ≡ total f + k
unfolding total
total-step slot k f g low h = below-step 512 slot k f g h low

below-none : (n : ℕ) → total_below n (λ s. []) ≡ 0
unfolding total_below
below-none zero = refl
below-none (suc n) = let a = below-none n in omega (arith, a)

pub total-none : total (λ s. []) ≡ 0
unfolding total
total-none = below-none 512

-- no cells
pub total-empty : (f : ℕ → List Cell) → ((s : ℕ) → f s ≡ []) → total f ≡ 0
total-empty f h = total-same (λ s. []) f (λ s. ap length (h s)) ∙ total-none

total-entries : (es : List Entry) → AllByRecursion IsEntry es → total (held es) ≡ length es
total-entries [] each = total-empty (held []) (λ s. refl)
total-entries (e ∷ es) each =
    let h = each.0 in
    let a = total-step e.slot 1 (held es) (held (e ∷ es)) h.slot (λ s. length-held e es s) in
    let b = total-entries es each.1 in
    omega (arith, a, b)

-- the entries are as many as the cells of all slots
pub total-held : (es : List Entry) → AreEntries es → length es ≡ total (λ s. sums (held es s))
total-held es h = sym (total-same (held es) (λ s. sums (held es s)) (λ s. length-sums (held es s) (h.once s)) ∙ total-entries es h.each)

below-part : (n slot : ℕ) (f : ℕ → List Cell) → slot < n → length (f slot) ≤ total_below n f
unfolding total_below
below-part zero slot f low = absurd (omega (arith, low))
below-part (suc n) slot f low = elim (cases_eq n slot) [
  | inl e ↦ let a = ap (λ k. length (f k)) e in omega (arith, a)
  | inr m ↦ let a = below-part n slot f (omega (arith, low, m)) in omega (arith, a)
]

-- one slot has no more than all
pub total-part : (slot : ℕ) (f : ℕ → List Cell) → slot < 512 → length (f slot) ≤ total f
unfolding total
total-part slot f low = below-part 512 slot f low

below-four : (n : ℕ) (a b c d : ℕ → List Cell) → ((s : ℕ) → length (a s) + length (b s) ≡ length (c s) + length (d s)) → total_below n a + total_below n b ≡ total_below n c + total_below n d
unfolding total_below
below-four zero a b c d h = refl
below-four (suc n) a b c d h = let x = below-four n a b c d h in let y = h n in omega (arith, x, y)

-- what comes and goes in each slot does in all
pub total-four : (a b c d : ℕ → List Cell) → ((s : ℕ) → length (a s) + length (b s) ≡ length (c s) + length (d s)) → total a + total b ≡ total c + total d
unfolding total
total-four a b c d h = below-four 512 a b c d h

below-most : (n : ℕ) (f : ℕ → List Cell) → ((s : ℕ) → length (f s) ≤ 1) → total_below n f ≤ n
unfolding total_below
below-most zero f h = omega arith
below-most (suc n) f h = let a = below-most n f h in let b = h n in omega (arith, a, b)

-- where no slot has more than one
pub total-most : (f : ℕ → List Cell) → ((s : ℕ) → length (f s) ≤ 1) → total f ≤ 512
unfolding total
total-most f h = below-most 512 f h
