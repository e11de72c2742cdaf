-- The cells of some of the groups: which ones the first few cells are, and that they may be picked before or after all are added up.
use Rattle.std.proofs.Common.{◌≡◌, inl, inr, ℕ, ℤ, ◌≤◌, ◌<◌, nat_lt, Bool, cond, true, false, int_lt, List, [], ◌∷◌, ◌++◌, take, drop, refl, sym, ap, ap₂, subst, ◌∙◌, append_assoc, append-nil, take-append-drop, arith}
use Rattle.std.specs.List.{fold, filter, AllByRecursion}
use Rattle.std.proofs.lemmas.Bool.{lt-ltb}
use Rattle.std.proofs.lemmas.List.Elements.{filter-append}
use Rattle.as_base.specs.declared.fragment.Cell.{Cell}
use Rattle.group_table.specs.Cells.{plus, add_in, sums, times, IsRising}
use Rattle.group_table.specs.Steps.{HaveFirst, IsPartlyMerged}
use Rattle.group_table.proofs.CellLaws.{cases_group, past, here, one, merge}
use Rattle.group_table.proofs.SumLaws.{eq-to, rising-added, IsAbove, above-through}
use Rattle.group_table.proofs.GridLaws.{times-append}
use Rattle.group_table.proofs.HeldLaws.{eq-self}

-- ---- picked before or after

module _ (p : ℤ → Bool) where
  abbrev picks : Cell → Bool
  picks c = p c.group

  above-picked : (g : ℤ) (cs : List Cell) → IsAbove g cs → IsAbove g (filter picks cs)
  above-picked g [] h = tt
  above-picked g (c ∷ cs) h = go (picks c) (above-picked g cs h.1)
    where
      go : (t : Bool) → IsAbove g (filter picks cs) → IsAbove g (cond t (c ∷ filter picks cs) (filter picks cs))
      go true k = (h.0, k)
      go false k = k

  add-first : (c : Cell) (cs : List Cell) → IsAbove c.group cs → add_in cs c ≡ c ∷ cs
  add-first c [] h = refl
  add-first c (d ∷ ds) h = here d ds c h.0

  picked-added : (l : List Cell) (c : Cell) → IsRising l → filter picks (add_in l c) ≡ cond (p c.group) (add_in (filter picks l) c) (filter picks l)
  picked-added [] c r = refl
  picked-added (d ∷ ds) c r = elim (cases_group d.group c.group) [
    | inl e ↦
        ap (filter picks) (past d ds c e)
        ∙ ap (λ l. cond (p d.group) (d ∷ l) l) (picked-added ds c r.1)
        ∙ later (p d.group) (p c.group) (filter picks ds) e
    | inr (inl e) ↦
        ap (filter picks) (here d ds c e)
        ∙ ap (λ l. cond (p c.group) l (filter picks (d ∷ ds)))
        (sym (add-first c (filter picks (d ∷ ds)) (above-picked c.group (d ∷ ds) (e, above-through c.group d.group ds e r.0))))
    | inr (inr e) ↦ ap (filter picks) (one d ds c e) ∙ equal (p d.group) (p c.group) (filter picks ds) (ap p e) e
  ]
    where
      later : (t u : Bool) (fs : List Cell) → int_lt d.group c.group ≡ true → cond t (d ∷ cond u (add_in fs c) fs) (cond u (add_in fs c) fs) ≡ cond u (add_in (cond t (d ∷ fs) fs) c) (cond t (d ∷ fs) fs)
      later true true fs e = sym (past d fs c e)
      later true false fs e = refl
      later false true fs e = refl
      later false false fs e = refl

      equal : (t u : Bool) (fs : List Cell) → t ≡ u → d.group ≡ c.group → cond t (plus d c ∷ fs) fs ≡ cond u (add_in (cond t (d ∷ fs) fs) c) (cond t (d ∷ fs) fs)
      equal true u fs same e = sym (ap (λ t. cond t (add_in (d ∷ fs) c) (d ∷ fs)) (sym same) ∙ one d fs c e)
      equal false u fs same e = sym (ap (λ t. cond t (add_in fs c) fs) (sym same))

  picked-folded : (cs l : List Cell) → IsRising l → filter picks (fold add_in l cs) ≡ fold add_in (filter picks l) (filter picks cs)
  picked-folded [] l r = refl
  picked-folded (c ∷ cs) l r =
      picked-folded cs (add_in l c) (rising-added l c r) ∙ ap (λ k. fold add_in k (filter picks cs)) (picked-added l c r) ∙ go (p c.group)
    where
      go : (t : Bool) → fold add_in (cond t (add_in (filter picks l) c) (filter picks l)) (filter picks cs) ≡ fold add_in (filter picks l) (cond t (c ∷ filter picks cs) (filter picks cs))
      go true = refl
      go false = refl

-- ---- the first few

abbrev Only : List Cell → Cell → Bool
Only ys c = nat_lt 0 (times c.group ys)

members : (pre ws : List Cell) → AllByRecursion (λ (c : Cell). 0 < times c.group (pre ++ ws)) ws
members pre [] = tt
members pre (w ∷ ws) = (
  (let a = times-append w.group pre (w ∷ ws) in let own = ap (λ t. cond {A = ℕ} t 1 0) (eq-to w.group w.group refl) in omega (arith, a, own)),
  subst (λ l. AllByRecursion (λ (c : Cell). 0 < times c.group l) ws) (append_assoc pre (w ∷ []) ws) (members (pre ++ w ∷ []) ws),
)

all-weaker : {X : Type 0} (P Q : X → Type 0) (xs : List X) → ((x : X) → P x → Q x) → AllByRecursion P xs → AllByRecursion Q xs
all-weaker P Q [] f h = tt
all-weaker P Q (x ∷ xs) f h = (f x h.0, all-weaker P Q xs f h.1)

kept : (ys ws : List Cell) → AllByRecursion (λ (c : Cell). 0 < times c.group ys) ws → filter (Only ys) ws ≡ ws
kept ys [] h = refl
kept ys (w ∷ ws) h = ap (λ t. cond t (w ∷ filter (Only ys) ws) (filter (Only ys) ws)) (lt-ltb 0 (times w.group ys) h.0) ∙ ap (λ l. w ∷ l) (kept ys ws h.1)

gone : (ys ws : List Cell) → AllByRecursion (λ (c : Cell). times c.group ys ≡ 0) ws → filter (Only ys) ws ≡ []
gone ys [] h = refl
gone ys (w ∷ ws) h = ap (λ n. cond (nat_lt 0 n) (w ∷ filter (Only ys) ws) (filter (Only ys) ws)) h.0 ∙ gone ys ws h.1

-- where no group has two cells, the first few are those of their groups
only-first : (ys zs : List Cell) → ((g : ℤ) → times g (ys ++ zs) ≤ 1) → filter (Only ys) (ys ++ zs) ≡ ys
only-first ys zs once =
    filter-append (Only ys) ys zs
    ∙ ap₂ (λ (k l : List Cell). k ++ l) (kept ys ys (members [] ys))
    (gone ys zs (all-weaker (λ (c : Cell). 0 < times c.group zs) (λ (c : Cell). times c.group ys ≡ 0) zs (λ c h. let a = times-append c.group ys zs in let b = once c.group in omega (arith, a, b, h)) (members [] zs)))
    ∙ append-nil ys

-- what the first few come to is part of what all come to
pub partly : (start now : ℕ → List Cell) (slot : ℕ) (xs more : List Cell) → ((g : ℤ) → times g xs ≤ 1) → more ≡ sums xs → HaveFirst start now slot xs → IsPartlyMerged (start slot) (now slot) more
partly start now slot xs more once is h =
    let ys = take h.many xs in
    let whole : ys ++ drop h.many xs ≡ xs = take-append-drop h.many xs in
    let first : filter (Only ys) xs ≡ ys = subst (λ l. filter (Only ys) l ≡ ys) whole (only-first ys (drop h.many xs) (subst (λ l. (g : ℤ) → times g l ≤ 1) (sym whole) once)) in
    record {
      which = λ g. nat_lt 0 (times g ys);
      cells =
          h.cells slot ∙ ap (λ t. cond t (fold add_in (start slot) ys) (start slot)) (eq-self slot)
          ∙ sym (merge (start slot) ys)
          ∙ ap (fold add_in (start slot)) (sym (ap (filter (Only ys)) is ∙ picked-folded (λ g. nat_lt 0 (times g ys)) xs [] tt ∙ ap sums first));
    }

-- none of them were added
pub partly-none : (old new more : List Cell) → new ≡ old → IsPartlyMerged old new more
partly-none old new more same = record { which = λ g. false; cells = same ∙ ap (fold add_in old) (sym (none more)) }
  where
    none : (cs : List Cell) → filter (λ (c : Cell). false) cs ≡ []
    none [] = refl
    none (c ∷ cs) = none cs
