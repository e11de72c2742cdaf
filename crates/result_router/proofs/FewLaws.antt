-- Fragments of few records in all are sound, whatever their windows and groups.
use Rattle.std.proofs.Common.{◌≡◌, ℕ, ℤ, ◌+◌, ◌^◌, ◌≤◌, eqb, Bool, true, false, cond, List, [], ◌∷◌, ◌++◌, ap, ◌∙◌, arith}
use Rattle.std.specs.List.{filter, sum_by, AllByRecursion}
use Rattle.std.specs.Ordering.{int_eq}
use Rattle.std.proofs.lemmas.Grind.{flat_map-append}
use Rattle.std.proofs.lemmas.List.Sums.{sum_by-cons, sum_by-append}
use Rattle.as_base.specs.declared.fragment.Cell.{Cell}
use Rattle.as_base.specs.declared.fragment.Fragment.{Fragment}
use Rattle.group_table.specs.Cells.{count_at}
use Rattle.views.proofs.ListLaws.{All-append}
use Rattle.result_router.specs.Rising.{with_key, number_of, start_of}
use Rattle.result_router.specs.Rows.{cells_in, cells_of}
use Rattle.result_router.specs.Sound.{IsSoundFragment, AreSound}

-- how many records the cells count
abbrev pub records_in_all : List Cell → ℕ
records_in_all cs = sum_by (λ (c : Cell). c.count) cs

count-most : (g : ℤ) (cs : List Cell) → count_at cs g ≤ records_in_all cs
count-most g [] = omega arith
count-most g (c ∷ cs) = let cons = sum_by-cons (λ (c : Cell). c.count) c cs in let rest = count-most g cs in go (int_eq c.group g) cons rest
  where
    go : (b : Bool) → records_in_all (c ∷ cs) ≡ c.count + records_in_all cs → count_at cs g ≤ records_in_all cs → cond b c.count 0 + count_at cs g ≤ records_in_all (c ∷ cs)
    go true cons rest = omega (arith, cons, rest)
    go false cons rest = omega (arith, cons, rest)

filter-most : (p : Fragment → Bool) (fs : List Fragment) → records_in_all (cells_of (filter p fs)) ≤ records_in_all (cells_of fs)
filter-most p [] = omega arith
filter-most p (f ∷ fs) = go (p f) (filter-most p fs)
  where
    more : (gs : List Fragment) → records_in_all (cells_of (f ∷ gs)) ≡ records_in_all (cells_in f.body) + records_in_all (cells_of gs)
    more gs = sum_by-append (λ (c : Cell). c.count) (cells_in f.body) (cells_of gs)

    go : (b : Bool) → records_in_all (cells_of (filter p fs)) ≤ records_in_all (cells_of fs) → records_in_all (cells_of (cond b (f ∷ filter p fs) (filter p fs))) ≤ records_in_all (cells_of (f ∷ fs))
    go true rest = let a = more (filter p fs) in let b = more fs in omega (arith, a, b, rest)
    go false rest = let b = more fs in omega (arith, b, rest)

few-sound : (fs : List Fragment) → AllByRecursion IsSoundFragment fs → records_in_all (cells_of fs) ≤ 2 ^ 62 → AreSound fs
few-sound fs each most = record {
  each = each;
  few = λ n start g.
      let a = count-most g (cells_of (with_key start_of start (with_key number_of n fs))) in
      let b = filter-most (λ f. eqb (start_of f) start) (with_key number_of n fs) in
      let c = filter-most (λ f. eqb (number_of f) n) fs in
      omega (arith, a, b, c, most);
}

-- those of two parts
pub few-sound-both : (fs gs : List Fragment) → AllByRecursion IsSoundFragment fs → AllByRecursion IsSoundFragment gs → records_in_all (cells_of fs) + records_in_all (cells_of gs) ≤ 2 ^ 62 → AreSound (fs ++ gs)
few-sound-both fs gs first second most =
    few-sound (fs ++ gs) (All-append IsSoundFragment fs gs first second)
    (let both = ap records_in_all (flat_map-append (λ (f : Fragment). cells_in f.body) fs gs) ∙ sum_by-append (λ (c : Cell). c.count) (cells_of fs) (cells_of gs) in omega (arith, both, most))
