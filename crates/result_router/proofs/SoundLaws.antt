-- What is sound stays so, of a rest and of those of one query or window.
use Rattle.std.proofs.Common.{◌≡◌, ℕ, ℤ, ◌+◌, ◌^◌, ◌≤◌, eqb, Bool, true, false, cond, ◌&&◌, List, [], ◌∷◌, ◌++◌, drop, zero, suc, refl, sym, ap, subst, ◌∙◌, arith}
use Rattle.std.specs.Borrow.{Bor}
use Rattle.std.specs.List.{filter, AllByRecursion}
use Rattle.std.proofs.lemmas.Bool.{eq-eqb}
use Rattle.std.proofs.lemmas.List.{drop-map}
use Rattle.as_base.specs.declared.fragment.Cell.{Cell}
use Rattle.as_base.specs.declared.fragment.Fragment.{Fragment}
use Rattle.group_table.specs.Cells.{IsSound, count_at}
use Rattle.views.proofs.ListLaws.{All-append, All-filter, filter-filter}
use Rattle.result_router.specs.Lent.{lent}
use Rattle.result_router.specs.Rising.{with_key, number_of, start_of}
use Rattle.result_router.specs.Rows.{cells_in, cells_of}
use Rattle.result_router.specs.Sound.{IsSoundFragment, AreSound, AreSoundOfQuery, AreSoundOfWindow}

count-append : (g : ℤ) (cs ds : List Cell) → count_at (cs ++ ds) g ≡ count_at cs g + count_at ds g
count-append g [] ds = omega arith
count-append g (c ∷ cs) ds = let rest = count-append g cs ds in omega (arith, rest)

-- a rest has no more of what passes a test
count-drop : (g : ℤ) (p : Fragment → Bool) (k : ℕ) (fs : List Fragment) → count_at (cells_of (filter p (drop k fs))) g ≤ count_at (cells_of (filter p fs)) g
count-drop g p zero fs = omega arith
count-drop g p (suc k) [] = omega arith
count-drop g p (suc k) (f ∷ fs) = go (p f) (count-drop g p k fs)
  where
    go : (b : Bool) → count_at (cells_of (filter p (drop k fs))) g ≤ count_at (cells_of (filter p fs)) g → count_at (cells_of (filter p (drop k fs))) g ≤ count_at (cells_of (cond b (f ∷ filter p fs) (filter p fs))) g
    go true le = let both = count-append g (cells_in f.body) (cells_of (filter p fs)) in omega (arith, le, both)
    go false le = le

All-drop : {X : Type 0} (P : X → Type 0) (k : ℕ) (xs : List X) → AllByRecursion P xs → AllByRecursion P (drop k xs)
All-drop P zero xs h = h
All-drop P (suc k) [] h = tt
All-drop P (suc k) (x ∷ xs) h = All-drop P k xs h.1

rest-few : (most : ℕ) (g : ℤ) (n start k : ℕ) (fs : List Fragment) → count_at (cells_of (with_key start_of start (with_key number_of n fs))) g ≤ most
    → count_at (cells_of (with_key start_of start (with_key number_of n (drop k fs)))) g ≤ most
rest-few most g n start k fs h =
    let both : Fragment → Bool = λ f. eqb f.n n && eqb f.start start in
    let whole = ap (λ l. count_at (cells_of l) g) (filter-filter (λ f. eqb (start_of f) start) (λ f. eqb (number_of f) n) fs) in
    let part = ap (λ l. count_at (cells_of l) g) (filter-filter (λ f. eqb (start_of f) start) (λ f. eqb (number_of f) n) (drop k fs)) in
    let le = count-drop g both k fs in
    omega (arith, h, whole, part, le)

-- those of a query, from a place on
pub sound-query : (n k : ℕ) (bs : List (Bor Fragment)) → AreSound (lent bs) → AreSoundOfQuery (with_key number_of n (lent (drop k bs)))
sound-query n k bs h = subst (λ l. AreSoundOfQuery (with_key number_of n l)) (drop-map (λ (b : Bor Fragment). b.now) k bs) (record {
  each = All-filter IsSoundFragment (λ f. eqb (number_of f) n) (drop k (lent bs)) (All-drop IsSoundFragment k (lent bs) h.each);
  few = λ start g. rest-few (2 ^ 62) g n start k (lent bs) (h.few n start g);
})

-- those of a window, from a place on
pub sound-window : (start k : ℕ) (bs : List (Bor Fragment)) → AreSoundOfQuery (lent bs) → AreSoundOfWindow (with_key start_of start (lent (drop k bs)))
sound-window start k bs h = subst (λ l. AreSoundOfWindow (with_key start_of start l)) (drop-map (λ (b : Bor Fragment). b.now) k bs) (record {
  each = All-filter IsSoundFragment (λ f. eqb (start_of f) start) (drop k (lent bs)) (All-drop IsSoundFragment k (lent bs) h.each);
  few = λ g. let most = h.few start g in let le = count-drop g (λ f. eqb (start_of f) start) k (lent bs) in omega (arith, most, le);
})

-- ---- in another order

All-keys : (P : Fragment → Type 0) (key : Fragment → ℕ) (fs : List Fragment) → ((k : ℕ) → AllByRecursion P (with_key key k fs)) → AllByRecursion P fs
All-keys P key [] h = tt
All-keys P key (f ∷ fs) h = (
  (subst (λ b. AllByRecursion P (cond b (f ∷ with_key key (key f) fs) (with_key key (key f) fs))) (eq-eqb (key f) (key f) refl) (h (key f))).0,
  All-keys P key fs (λ k. rest (eqb (key f) k) (with_key key k fs) (h k)),
)
  where
    rest : (b : Bool) (gs : List Fragment) → AllByRecursion P (cond b (f ∷ gs) gs) → AllByRecursion P gs
    rest true gs all = all.1
    rest false gs all = all

each-same : (key : Fragment → ℕ) (fs gs : List Fragment) → AllByRecursion IsSoundFragment fs → ((k : ℕ) → with_key key k gs ≡ with_key key k fs) → AllByRecursion IsSoundFragment gs
each-same key fs gs h same = All-keys IsSoundFragment key gs (λ k. subst (AllByRecursion IsSoundFragment) (sym (same k)) (All-filter IsSoundFragment (λ f. eqb (key f) k) fs h))

-- where those of each query stay as they are
pub sound-sorted : (fs gs : List Fragment) → AreSound fs → ((n : ℕ) → with_key number_of n gs ≡ with_key number_of n fs) → AreSound gs
sound-sorted fs gs h same = record {
  each = each-same number_of fs gs h.each same;
  few = λ n start g. subst (λ l. count_at (cells_of (with_key start_of start l)) g ≤ 2 ^ 62) (sym (same n)) (h.few n start g);
}

-- where those of each window do
pub query-sorted : (fs gs : List Fragment) → AreSoundOfQuery fs → ((start : ℕ) → with_key start_of start gs ≡ with_key start_of start fs) → AreSoundOfQuery gs
query-sorted fs gs h same = record {
  each = each-same start_of fs gs h.each same;
  few = λ start g. subst (λ l. count_at (cells_of l) g ≤ 2 ^ 62) (sym (same start)) (h.few start g);
}

-- the cells of fragments that are sound
pub sound-cells : (fs : List Fragment) → AllByRecursion IsSoundFragment fs → AllByRecursion IsSound (cells_of fs)
sound-cells [] h = tt
sound-cells (f ∷ fs) h = All-append IsSound (cells_in f.body) (cells_of fs) h.0.cells (sound-cells fs h.1)
