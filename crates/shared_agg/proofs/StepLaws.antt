-- What adding and dropping do to the slices of a stream.
use Rattle.std.proofs.Common.{◌≡◌, ◌⊎◌, inl, inr, ℕ, zero, suc, ℤ, ◌+◌, ◌<◌, ◌≤◌, ◌^◌, ◌&&◌, eqb, Bool, true, false, cond, ⊎_elim, Result, Ok, Err, Some, None, List, [], ◌∷◌, length, get_or, refl, sym, ap, ap₂, subst, ◌∙◌, arith}
use Rattle.std.specs.List.{AllByRecursion, fold}
use Rattle.std.specs.Result.{OnOk, OnErr, IfOk}
use Rattle.std.proofs.lemmas.Bool.{cases_lt, eqb-true, eq-eqb}
use Rattle.as_base.specs.declared.fragment.Cell.{Cell}
use Rattle.group_table.specs.Cells.{add_in, sums, count_at}
use Rattle.group_table.specs.Tables.{cells_at}
use Rattle.group_table.specs.Totals.{total}
use Rattle.group_table.proofs.SumLaws.{count-sums}
use Rattle.shared_agg.specs.declared.slices.Slice.{Slice}
use Rattle.shared_agg.specs.Slices.{lane, cells_from, epoch_from, count_in, StartsRise, HasCell, IsLane, IsChangedAt, HasGrown, HasGot, HasLost, IsSlice, IsPutIn, IsLetGo, AreFed, ArePartlyFed, AreDropped, EpochsStay, OthersStay, without, begun_before}
use Rattle.shared_agg.specs.Fill.{has}
use Rattle.shared_agg.proofs.FillLaws.{partly-longer, partly-count}
use Rattle.shared_agg.proofs.OrderLaws.{begins-before, begins-later}
use Rattle.shared_agg.proofs.SliceLaws.{total-more, total-none, changed-rise, changed-epochs, changed-cells, changed-others, changed-all, changed-count, changed-length, IsGap, gap-cells, gap-epoch, put-cells, put-epoch, put-all, put-rise, put-count, less-rise, less-count, less-cells, less-epoch}

none-some : {X : Type 0} (x : X) → None ≡ Some x → ⊥
none-some x e = cc

-- ---- a slice that is there gets a record

-- the slice at the place has got what is to be added to these slots
record HasPicked (adds : ℕ → List Cell) (k : ℕ) (xs ys : List Slice) : Type 0 where
  which : ℕ → Bool
  got : IsChangedAt k (HasGot (λ s. cond (which s) (adds s) [])) xs ys

picked : (adds : ℕ → List Cell) (k : ℕ) (xs ys : List Slice) → IsChangedAt k (HasGrown adds) xs ys → HasPicked adds k xs ys
picked adds zero (x ∷ xs) (y ∷ ys) h = record {
  which = h.0.partly.which;
  got = (record { start = h.0.start; epoch = h.0.epoch; fed = h.0.partly.fed }, h.1);
}
picked adds (suc k) (x ∷ xs) (y ∷ ys) h = let p = picked adds k xs ys h.1 in record { which = p.which; got = (h.0, p.got) }
picked adds zero [] ys h = absurd h
picked adds (suc k) [] ys h = absurd h
picked adds zero (x ∷ xs) [] h = absurd h
picked adds (suc k) (x ∷ xs) [] h = absurd h

module _ (start epoch k : ℕ) (adds : ℕ → List Cell) (xs ys : List Slice) (d : Slice) (rise : StartsRise xs) (lt : k < length xs) (here : (get_or xs k d).start ≡ start) where
  pub got-fed : IsChangedAt k (HasGot adds) xs ys → AreFed start adds xs ys
  got-fed h c slot low =
      changed-cells (HasGot adds) (λ x y r. r.start) slot (λ l. fold add_in l (adds slot)) (λ x y r. r.fed slot) k xs ys d rise lt h c
      ∙ ap (λ n. cond (eqb c n) (fold add_in (cells_from xs c slot) (adds slot)) (cells_from xs c slot)) here
      ∙ inside (eqb c start)
    where
      inside : (b : Bool) → cond b (fold add_in (cells_from xs c slot) (adds slot)) (cells_from xs c slot) ≡ fold add_in (cells_from xs c slot) (cond b (adds slot) [])
      inside true = refl
      inside false = refl

  grown-epochs : IsChangedAt k (HasGrown adds) xs ys → (c : ℕ) → epoch_from ys c ≡ epoch_from xs c
  grown-epochs h c = changed-epochs (HasGrown adds) (λ x y r. r.start) (λ x y r. r.epoch) k xs ys h c

  pub grown-stay : IsChangedAt k (HasGrown adds) xs ys → EpochsStay start epoch xs ys
  grown-stay h = record {
    kept = λ c e was. grown-epochs h c ∙ was;
    made = λ c e was is. absurd (none-some e (sym was ∙ sym (grown-epochs h c) ∙ is));
  }

  pub grown-others : IsChangedAt k (HasGrown adds) xs ys → OthersStay start xs ys
  grown-others h = record { cells = others; epochs = grown-epochs h }
    where
      others : (c slot : ℕ) → eqb c start ≡ false → cells_from ys c slot ≡ cells_from xs c slot
      others c slot e = changed-others (HasGrown adds) (λ x y r. r.start) k xs ys d lt h c slot (ap (eqb c) here ∙ e)

  pub grown-lane : ((slot : ℕ) (g : ℤ) → count_at (adds slot) g ≤ 1) → IsChangedAt k (HasGrown adds) xs ys
      → (n : ℕ) → n < 2 ^ 62 → IsLane (lane xs n) → IsLane (lane ys (n + 1))
  grown-lane most h n few l = record {
    rise = changed-rise (HasGrown adds) (λ x y r. r.start) k xs ys h l.rise;
    filled = changed-all (HasGrown adds) HasCell (λ x y r p. let a = total-more (cells_at x.table) (cells_at y.table) (partly-longer x.table y.table adds r.partly) in omega (arith, a, p)) k xs ys h l.filled;
    counted = λ slot g.
        let a = changed-count (HasGrown adds) slot g 1 (λ x y r. let b = partly-count x.table y.table adds r.partly slot g in let m = most slot g in omega (arith, b, m)) k xs ys h in
        let b = l.counted slot g in
        omega (arith, a, b);
    few = omega (arith, few);
  }

pub grown-partly : (start k : ℕ) (adds : ℕ → List Cell) (xs ys : List Slice) (d : Slice) → StartsRise xs → k < length xs → (get_or xs k d).start ≡ start
    → IsChangedAt k (HasGrown adds) xs ys → ArePartlyFed start adds xs ys
grown-partly start k adds xs ys d rise lt here h =
    let p = picked adds k xs ys h in
    record { which = p.which; fed = got-fed start 0 k (λ s. cond (p.which s) (adds s) []) xs ys d rise lt here p.got }

-- ---- a slice is made

module _ (start epoch k : ℕ) (adds : ℕ → List Cell) (xs ys : List Slice) (y : Slice) (rise : StartsRise xs) (gap : IsGap start k xs) (new : IsSlice start epoch adds y) (put : IsPutIn k y xs ys) where
  at : IsGap y.start k xs
  at = subst (λ n. IsGap n k xs) (sym new.start_is) gap

  cases : (n : ℕ) → total (cells_at y.table) ≡ n → (total (cells_at y.table) ≡ 0) ⊎ (0 < total (cells_at y.table))
  cases zero e = inl e
  cases (suc n) e = inr (omega (arith, e))

  pub made-fed : AreFed start adds xs ys
  made-fed c slot low = elim (cases (total (cells_at y.table)) refl) [
    | inl none ↦
        let nothing : sums (adds slot) ≡ [] = sym (new.cells slot) ∙ total-none (cells_at y.table) none slot low in
        ap (λ l. cells_from l c slot) (put.none none) ∙ kept nothing (eqb c start) refl
    | inr some ↦
        ap (λ l. cells_from l c slot) (put.some some) ∙ put-cells k slot xs y at c
        ∙ ap₂ (λ n l. cond (eqb c n) l (cells_from xs c slot)) new.start_is (new.cells slot)
        ∙ more (eqb c start) refl
  ]
    where
      absent : eqb c start ≡ true → cells_from xs c slot ≡ []
      absent e = ap (λ n. cells_from xs n slot) (eqb-true c start e) ∙ gap-cells start k slot xs rise gap

      kept : sums (adds slot) ≡ [] → (b : Bool) → eqb c start ≡ b → cells_from xs c slot ≡ fold add_in (cells_from xs c slot) (cond b (adds slot) [])
      kept nothing true e = absent e ∙ sym nothing ∙ sym (ap (λ l. fold add_in l (adds slot)) (absent e))
      kept nothing false e = refl

      more : (b : Bool) → eqb c start ≡ b → cond b (sums (adds slot)) (cells_from xs c slot) ≡ fold add_in (cells_from xs c slot) (cond b (adds slot) [])
      more true e = sym (ap (λ l. fold add_in l (adds slot)) (absent e))
      more false e = refl

  pub made-stay : EpochsStay start epoch xs ys
  made-stay = elim (cases (total (cells_at y.table)) refl) [
    | inl none ↦ record {
      kept = λ c e was. ap (λ l. epoch_from l c) (put.none none) ∙ was;
      made = λ c e was is. absurd (none-some e (sym was ∙ sym (ap (λ l. epoch_from l c) (put.none none)) ∙ is));
    }
    | inr some ↦
        let is_now : (c : ℕ) → epoch_from ys c ≡ cond (eqb c start) (Some epoch) (epoch_from xs c) =
        λ c. ap (λ l. epoch_from l c) (put.some some) ∙ put-epoch k xs y at c ∙ ap₂ (λ n m. cond (eqb c n) (Some m) (epoch_from xs c)) new.start_is new.epoch_is in
        record {
          kept = λ c e was. is_now c ∙ kept c e was (eqb c start) refl;
          made = λ c e was is. made c e was (eqb c start) refl (sym (is_now c) ∙ is);
        }
  ]
    where
      some-same : (a b : ℕ) → Some a ≡ Some b → a ≡ b
      some-same a b e = cc

      kept : (c e : ℕ) → epoch_from xs c ≡ Some e → (b : Bool) → eqb c start ≡ b → cond b (Some epoch) (epoch_from xs c) ≡ Some e
      kept c e was true q = absurd (none-some e (sym (ap (λ n. epoch_from xs n) (eqb-true c start q) ∙ gap-epoch start k xs rise gap) ∙ was))
      kept c e was false q = was

      made : (c e : ℕ) → epoch_from xs c ≡ None → (b : Bool) → eqb c start ≡ b → cond b (Some epoch) (epoch_from xs c) ≡ Some e → (c ≡ start) × (e ≡ epoch)
      made c e was true q is = (eqb-true c start q, some-same e epoch (sym is))
      made c e was false q is = absurd (none-some e (sym was ∙ is))

  pub made-lane : ((slot : ℕ) (g : ℤ) → count_at (adds slot) g ≤ 1) → (n : ℕ) → n < 2 ^ 62 → IsLane (lane xs n) → IsLane (lane ys (n + 1))
  made-lane most n few l = elim (cases (total (cells_at y.table)) refl) [
    | inl none ↦ subst (λ s. IsLane (lane s (n + 1))) (sym (put.none none)) (record {
      rise = l.rise;
      filled = l.filled;
      counted = λ slot g. let b = l.counted slot g in omega (arith, b);
      few = omega (arith, few);
    })
    | inr some ↦ subst (λ s. IsLane (lane s (n + 1))) (sym (put.some some)) (record {
      rise = put-rise k xs y l.rise at;
      filled = put-all HasCell k xs y l.filled some;
      counted = λ slot g.
          let a = put-count k slot g xs y in
          let b = l.counted slot g in
          let m = most slot g in
          let e = ap (λ s. count_at s g) (new.cells slot) in
          let s = count-sums g (adds slot) in
          omega (arith, a, b, m, e, s);
      few = omega (arith, few);
    })
  ]

pub none-partly : (start : ℕ) (adds : ℕ → List Cell) (xs ys : List Slice) → ys ≡ xs → ArePartlyFed start adds xs ys
none-partly start adds xs ys e = record { which = λ s. false; fed = λ c slot low. ap (λ l. cells_from l c slot) e ∙ nothing (eqb c start) (cells_from xs c slot) }
  where
    nothing : (b : Bool) (l : List Cell) → l ≡ fold add_in l (cond b [] [])
    nothing true l = refl
    nothing false l = refl

pub none-stay : (start epoch : ℕ) (xs ys : List Slice) → ys ≡ xs → EpochsStay start epoch xs ys
none-stay start epoch xs ys e = record {
  kept = λ c n was. ap (λ l. epoch_from l c) e ∙ was;
  made = λ c n was is. absurd (none-some n (sym was ∙ sym (ap (λ l. epoch_from l c) e) ∙ is));
}

pub none-lane : (xs ys : List Slice) → ys ≡ xs → (n : ℕ) → n < 2 ^ 62 → IsLane (lane xs n) → IsLane (lane ys (n + 1))
none-lane xs ys e n few l = subst (λ s. IsLane (lane s (n + 1))) (sym e) (record {
  rise = l.rise;
  filled = l.filled;
  counted = λ slot g. let b = l.counted slot g in omega (arith, b);
  few = omega (arith, few);
})

-- ---- cells are dropped

module _ (start k : ℕ) (slots : List Bool) (xs ms ys : List Slice) (d : Slice) (rise : StartsRise xs) (lt : k < length xs) (here : (get_or xs k d).start ≡ start)
    (lost : IsChangedAt k (HasLost slots) xs ms) (go : IsLetGo k ms ys) where
  mid-rise : StartsRise ms
  mid-rise = changed-rise (HasLost slots) (λ x y r. r.start) k xs ms lost rise

  mid-lt : k < length ms
  mid-lt = let a = changed-length (HasLost slots) k xs ms lost in omega (arith, a, lt)

  mid-epoch : (c : ℕ) → epoch_from ms c ≡ epoch_from xs c
  mid-epoch c = changed-epochs (HasLost slots) (λ x y r. r.start) (λ x y r. r.epoch) k xs ms lost c

  mid-cells : (c slot : ℕ) → cells_from ms c slot ≡ cond (eqb c start && has slots slot) [] (cells_from xs c slot)
  mid-cells c slot =
      changed-cells (HasLost slots) (λ x y r. r.start) slot (λ l. cond (has slots slot) [] l) (λ x y r. r.lost slot) k xs ms d rise lt lost c
      ∙ ap (λ n. cond (eqb c n) (cond (has slots slot) [] (cells_from xs c slot)) (cells_from xs c slot)) here
      ∙ inside (eqb c start)
    where
      inside : (b : Bool) → cond b (cond (has slots slot) [] (cells_from xs c slot)) (cells_from xs c slot) ≡ cond (b && has slots slot) [] (cells_from xs c slot)
      inside true = refl
      inside false = refl

  mid-here : (get_or ms k d).start ≡ start
  mid-here = starts-at k xs ms lost ∙ here
    where
      starts-at : (j : ℕ) (ps qs : List Slice) → IsChangedAt j (HasLost slots) ps qs → (get_or qs j d).start ≡ (get_or ps j d).start
      starts-at zero (a ∷ ps) (b ∷ qs) h = h.0.start
      starts-at (suc j) (a ∷ ps) (b ∷ qs) h = starts-at j ps qs h.1
      starts-at zero [] qs h = absurd h
      starts-at (suc j) [] qs h = absurd h
      starts-at zero (a ∷ ps) [] h = absurd h
      starts-at (suc j) (a ∷ ps) [] h = absurd h

  cases-left : (n : ℕ) → total (cells_at (get_or ms k d).table) ≡ n → (total (cells_at (get_or ms k d).table) ≡ 0) ⊎ (0 < total (cells_at (get_or ms k d).table))
  cases-left zero e = inl e
  cases-left (suc n) e = inr (omega (arith, e))

  pub lost-dropped : AreDropped start slots xs ys
  lost-dropped = elim (cases-left (total (cells_at (get_or ms k d).table)) refl) [
    | inl none ↦ record {
      cells = λ c slot low. ap (λ l. cells_from l c slot) (go.gone d none) ∙ less-cells k slot ms d mid-rise mid-lt (total-none (cells_at (get_or ms k d).table) none slot low) c ∙ mid-cells c slot;
      epochs = λ c other. ap (λ l. epoch_from l c) (go.gone d none) ∙ less-epoch k ms d mid-rise mid-lt c
          ∙ ap (λ b. cond b None (epoch_from ms c)) (ap (eqb c) mid-here ∙ other) ∙ mid-epoch c;
      kept = λ e is. absurd (none-some e (sym (ap (λ l. epoch_from l start) (go.gone d none) ∙ less-epoch k ms d mid-rise mid-lt start
          ∙ ap (λ b. cond b None (epoch_from ms start)) (eq-eqb start (get_or ms k d).start (sym mid-here))) ∙ is));
    }
    | inr some ↦ record {
      cells = λ c slot low. ap (λ l. cells_from l c slot) (go.stays d some) ∙ mid-cells c slot;
      epochs = λ c other. ap (λ l. epoch_from l c) (go.stays d some) ∙ mid-epoch c;
      kept = λ e is. sym (ap (λ l. epoch_from l start) (go.stays d some) ∙ mid-epoch start) ∙ is;
    }
  ]

  mid-count : (slot : ℕ) (g : ℤ) → count_in ms slot g ≤ count_in xs slot g
  mid-count slot g =
      let a = changed-count (HasLost slots) slot g 0 (λ x y r. fewer x y r) k xs ms lost in
      omega (arith, a)
    where
      fewer : (x y : Slice) → HasLost slots x y → count_at (cells_at y.table slot) g ≤ count_at (cells_at x.table slot) g + 0
      fewer x y r = let a = ap (λ l. count_at l g) (r.lost slot) in let b = least (has slots slot) in omega (arith, a, b)
        where
          least : (b : Bool) → count_at (cond b [] (cells_at x.table slot)) g ≤ count_at (cells_at x.table slot) g
          least true = omega arith
          least false = omega arith

  others-filled : (j : ℕ) (ps qs : List Slice) → IsChangedAt j (HasLost slots) ps qs → AllByRecursion HasCell ps
      → ((0 < total (cells_at (get_or qs j d).table) → AllByRecursion HasCell qs) × AllByRecursion HasCell (without j qs))
  others-filled zero (a ∷ ps) (b ∷ qs) h all = (λ some. (some, subst (AllByRecursion HasCell) (sym h.1) all.1), subst (AllByRecursion HasCell) (sym h.1) all.1)
  others-filled (suc j) (a ∷ ps) (b ∷ qs) h all =
      let rest = others-filled j ps qs h.1 all.1 in
      let first : HasCell b = subst HasCell (sym h.0) all.0 in
      (λ some. (first, rest.0 some), (first, rest.1))
  others-filled zero [] qs h all = absurd h
  others-filled (suc j) [] qs h all = absurd h
  others-filled zero (a ∷ ps) [] h all = absurd h
  others-filled (suc j) (a ∷ ps) [] h all = absurd h

  pub lost-lane : (n : ℕ) → IsLane (lane xs n) → IsLane (lane ys n)
  lost-lane n l = elim (cases-left (total (cells_at (get_or ms k d).table)) refl) [
    | inl none ↦ subst (λ s. IsLane (lane s n)) (sym (go.gone d none)) (record {
      rise = less-rise k ms mid-rise;
      filled = (others-filled k xs ms lost l.filled).1;
      counted = λ slot g. let a = less-count k slot g ms in let b = mid-count slot g in let e = l.counted slot g in omega (arith, a, b, e);
      few = l.few;
    })
    | inr some ↦ subst (λ s. IsLane (lane s n)) (sym (go.stays d some)) (record {
      rise = mid-rise;
      filled = (others-filled k xs ms lost l.filled).0 some;
      counted = λ slot g. let b = mid-count slot g in let e = l.counted slot g in omega (arith, b, e);
      few = l.few;
    })
  ]

-- where no slice begins there, nothing is dropped
pub gap-dropped : (start k : ℕ) (slots : List Bool) (xs ys : List Slice) → StartsRise xs → IsGap start k xs → ys ≡ xs → AreDropped start slots xs ys
gap-dropped start k slots xs ys rise gap e = record {
  cells = λ c slot low. ap (λ l. cells_from l c slot) e ∙ by_cases c slot (eqb c start) refl (has slots slot);
  epochs = λ c other. ap (λ l. epoch_from l c) e;
  kept = λ n is. sym (ap (λ l. epoch_from l start) e) ∙ is;
}
  where
    by_cases : (c slot : ℕ) (b : Bool) → eqb c start ≡ b → (in_set : Bool) → cells_from xs c slot ≡ cond (b && in_set) [] (cells_from xs c slot)
    by_cases c slot true q true = ap (λ n. cells_from xs n slot) (eqb-true c start q) ∙ gap-cells start k slot xs rise gap
    by_cases c slot true q false = refl
    by_cases c slot false q in_set = refl

-- ---- the same, from what the code has

pub by_either : {T E A B C : Type 0} (r : Result T E) → OnOk r A → OnErr r B → (A → C) → (B → C) → C
by_either (Ok x) a b f g = f a
by_either (Err x) a b f g = g b

pub on_err_all : {T E A : Type 0} (r : Result T E) → A → OnErr r A
on_err_all (Ok x) a = tt
on_err_all (Err x) a = a

pub if_ok_weaker : {T E : Type 0} (P Q : T → Type 0) (r : Result T E) → ((x : T) → P x → Q x) → IfOk r P → IfOk r Q
if_ok_weaker P Q (Ok x) f h = f x h
if_ok_weaker P Q (Err x) f h = tt

-- the place at which no slice begins
pub gap-is : (start k : ℕ) (xs : List Slice) → StartsRise xs → k ≡ begun_before start xs → k ≤ length xs → ((d : Slice) → k < length xs → (get_or xs k d).start ≡ start → ⊥) → IsGap start k xs
gap-is start k xs rise is within other = record {
  within = within;
  low = λ j d lt. begins-before start xs rise j d (omega (arith, lt, is));
  high = λ d lt.
      let le = begins-later start xs rise k d (omega (arith, is)) lt in
      ⊎_elim (λ l. l) (λ ge. absurd (other d lt (omega (arith, le, ge)))) (cases_lt start (get_or xs k d).start);
}
