-- Slices by rising start: what a change of one of them, a new one and one less do to what is read of them.
use Rattle.std.proofs.Common.{◌≡◌, inl, inr, ℕ, zero, suc, ℤ, ◌+◌, ◌<◌, ◌≤◌, eqb, Bool, true, false, cond, Some, None, List, [], ◌∷◌, length, get_or, set, refl, sym, ap, ap₂, subst, ◌∙◌, arith}
use Rattle.std.specs.List.{AllByRecursion, insert}
use Rattle.std.proofs.lemmas.Bool.{cases_lt, eqb-true, ne_eqb}
use Rattle.as_base.specs.declared.fragment.Cell.{Cell}
use Rattle.group_table.specs.Cells.{count_at}
use Rattle.group_table.specs.Tables.{cells_at}
use Rattle.group_table.specs.Totals.{total, total_below}
use Rattle.shared_agg.specs.declared.slices.Slice.{Slice}
use Rattle.shared_agg.specs.Slices.{starts, cells_from, epoch_from, count_in, begun_before, StartsRise, AreRising, IsChangedAt, without}
use Rattle.shared_agg.proofs.OrderLaws.{all-at, all-by, begins-before}

pub apart-below : (a b : ℕ) → a < b → eqb a b ≡ false
apart-below a b h = ne_eqb a b (λ e. absurd (omega (arith, h, e)))

pub apart-above : (a b : ℕ) → b < a → eqb a b ≡ false
apart-above a b h = ne_eqb a b (λ e. absurd (omega (arith, h, e)))

-- ---- all cells

below-more : (n : ℕ) (f g : ℕ → List Cell) → ((s : ℕ) → length (f s) ≤ length (g s)) → total_below n f ≤ total_below n g
unfolding total_below
below-more zero f g h = omega arith
below-more (suc n) f g h = let a = below-more n f g h in let b = h n in omega (arith, a, b)

pub total-more : (f g : ℕ → List Cell) → ((s : ℕ) → length (f s) ≤ length (g s)) → total f ≤ total g
unfolding total
total-more f g h = below-more 512 f g h

no-length : (l : List Cell) → length l ≡ 0 → l ≡ []
no-length [] h = refl
no-length (c ∷ l) h = absurd (omega (arith, h))

below-none : (n : ℕ) (f : ℕ → List Cell) → total_below n f ≡ 0 → (s : ℕ) → s < n → f s ≡ []
unfolding total_below
below-none zero f h s lt = absurd (omega (arith, lt))
below-none (suc n) f h s lt = elim (cases_lt s n) [
  | inl low ↦ below-none n f (omega (arith, h)) s low
  | inr high ↦ let is : s ≡ n = omega (arith, lt, high) in ap f is ∙ no-length (f n) (omega (arith, h))
]

-- where there is no cell in all, no slot has one
pub total-none : (f : ℕ → List Cell) → total f ≡ 0 → (s : ℕ) → s < 512 → f s ≡ []
unfolding total
total-none f h s lt = below-none 512 f h s lt

below-empty : (n : ℕ) (f : ℕ → List Cell) → ((s : ℕ) → s < n → f s ≡ []) → total_below n f ≡ 0
unfolding total_below
below-empty zero f h = refl
below-empty (suc n) f h = let a = below-empty n f (λ s lt. h s (omega (arith, lt))) in let b = ap length (h n (omega arith)) in omega (arith, a, b)

pub total-empty : (f : ℕ → List Cell) → ((s : ℕ) → s < 512 → f s ≡ []) → total f ≡ 0
unfolding total
total-empty f h = below-empty 512 f h

-- ---- the order of the starts

all-starts : (n : ℕ) (xs : List Slice) → AllByRecursion (λ (s : Slice). n < s.start) xs → AllByRecursion (λ m. n < m) (starts xs)
all-starts n [] h = tt
all-starts n (x ∷ xs) h = (h.0, all-starts n xs h.1)

starts-all : (n : ℕ) (xs : List Slice) → AllByRecursion (λ m. n < m) (starts xs) → AllByRecursion (λ (s : Slice). n < s.start) xs
starts-all n [] h = tt
starts-all n (x ∷ xs) h = (h.0, starts-all n xs h.1)

pub rise-starts : (xs : List Slice) → StartsRise xs → AreRising (starts xs)
rise-starts [] h = tt
rise-starts (x ∷ xs) h = (all-starts x.start xs h.0, rise-starts xs h.1)

starts-rise : (xs : List Slice) → AreRising (starts xs) → StartsRise xs
starts-rise [] h = tt
starts-rise (x ∷ xs) h = (starts-all x.start xs h.0, starts-rise xs h.1)

-- ---- a slice that became another

-- a write at a place
pub changed-set : (R : Slice → Slice → Type 0) (xs : List Slice) (k : ℕ) (d y : Slice) → k < length xs → R (get_or xs k d) y → IsChangedAt k R xs (set xs k y)
changed-set R [] k d y lt r = absurd (omega (arith, lt))
changed-set R (x ∷ xs) zero d y lt r = (r, refl)
changed-set R (x ∷ xs) (suc k) d y lt r = (refl, changed-set R xs k d y (omega (arith, lt)) r)

module _ (R : Slice → Slice → Type 0) (start : (x y : Slice) → R x y → y.start ≡ x.start) where
  pub changed-starts : (k : ℕ) (xs ys : List Slice) → IsChangedAt k R xs ys → starts ys ≡ starts xs
  changed-starts zero (x ∷ xs) (y ∷ ys) h = ap₂ (λ a l. a ∷ starts l) (start x y h.0) h.1
  changed-starts (suc k) (x ∷ xs) (y ∷ ys) h = ap₂ (λ (a : Slice) l. a.start ∷ l) h.0 (changed-starts k xs ys h.1)
  changed-starts zero [] ys h = absurd h
  changed-starts (suc k) [] ys h = absurd h
  changed-starts zero (x ∷ xs) [] h = absurd h
  changed-starts (suc k) (x ∷ xs) [] h = absurd h

  pub changed-rise : (k : ℕ) (xs ys : List Slice) → IsChangedAt k R xs ys → StartsRise xs → StartsRise ys
  changed-rise k xs ys h rise = starts-rise ys (subst AreRising (sym (changed-starts k xs ys h)) (rise-starts xs rise))

  pub changed-epochs : ((x y : Slice) → R x y → y.epoch ≡ x.epoch) → (k : ℕ) (xs ys : List Slice) → IsChangedAt k R xs ys → (c : ℕ) → epoch_from ys c ≡ epoch_from xs c
  changed-epochs epoch zero (x ∷ xs) (y ∷ ys) h c =
      ap (λ n. cond (eqb c n) (Some y.epoch) (epoch_from ys c)) (start x y h.0)
      ∙ ap₂ (λ n l. cond (eqb c x.start) (Some n) (epoch_from l c)) (epoch x y h.0) h.1
  changed-epochs epoch (suc k) (x ∷ xs) (y ∷ ys) h c =
      ap₂ (λ (a : Slice) o. cond (eqb c a.start) (Some a.epoch) o) h.0 (changed-epochs epoch k xs ys h.1 c)
  changed-epochs epoch zero [] ys h c = absurd h
  changed-epochs epoch (suc k) [] ys h c = absurd h
  changed-epochs epoch zero (x ∷ xs) [] h c = absurd h
  changed-epochs epoch (suc k) (x ∷ xs) [] h c = absurd h

  -- the slice at the place is that which begins there
  pub changed-cells : (slot : ℕ) (f : List Cell → List Cell) → ((x y : Slice) → R x y → cells_at y.table slot ≡ f (cells_at x.table slot))
      → (k : ℕ) (xs ys : List Slice) (d : Slice) → StartsRise xs → k < length xs → IsChangedAt k R xs ys
      → (c : ℕ) → cells_from ys c slot ≡ cond (eqb c (get_or xs k d).start) (f (cells_from xs c slot)) (cells_from xs c slot)
  changed-cells slot f cells zero (x ∷ xs) (y ∷ ys) d rise lt h c =
      ap (λ n. cond (eqb c n) (cells_at y.table slot) (cells_from ys c slot)) (start x y h.0)
      ∙ ap₂ (λ l ss. cond (eqb c x.start) l (cells_from ss c slot)) (cells x y h.0) h.1
      ∙ same (eqb c x.start)
    where
      same : (b : Bool) → cond b (f (cells_at x.table slot)) (cells_from xs c slot) ≡ cond b (f (cond b (cells_at x.table slot) (cells_from xs c slot))) (cond b (cells_at x.table slot) (cells_from xs c slot))
      same true = refl
      same false = refl
  changed-cells slot f cells (suc k) (x ∷ xs) (y ∷ ys) d rise lt h c =
      ap₂ (λ (a : Slice) l. cond (eqb c a.start) (cells_at a.table slot) l) h.0 (changed-cells slot f cells k xs ys d rise.1 (omega (arith, lt)) h.1 c)
      ∙ by_cases (eqb c x.start) refl
    where
      by_cases : (b : Bool) → eqb c x.start ≡ b
          → cond b (cells_at x.table slot) (cond (eqb c (get_or xs k d).start) (f (cells_from xs c slot)) (cells_from xs c slot))
          ≡ cond (eqb c (get_or xs k d).start) (f (cond b (cells_at x.table slot) (cells_from xs c slot))) (cond b (cells_at x.table slot) (cells_from xs c slot))
      by_cases true e =
          let later = all-at (λ (s : Slice). x.start < s.start) xs rise.0 k d (omega (arith, lt)) in
          let same = eqb-true c x.start e in
          sym (ap (λ b. cond b (f (cells_at x.table slot)) (cells_at x.table slot)) (apart-below c (get_or xs k d).start (omega (arith, later, same))))
      by_cases false e = refl
  changed-cells slot f cells k [] ys d rise lt h c = absurd (omega (arith, lt))
  changed-cells slot f cells zero (x ∷ xs) [] d rise lt h c = absurd h
  changed-cells slot f cells (suc k) (x ∷ xs) [] d rise lt h c = absurd h

  -- slices that begin elsewhere are as they were
  pub changed-others : (k : ℕ) (xs ys : List Slice) (d : Slice) → k < length xs → IsChangedAt k R xs ys
      → (c slot : ℕ) → eqb c (get_or xs k d).start ≡ false → cells_from ys c slot ≡ cells_from xs c slot
  changed-others zero (x ∷ xs) (y ∷ ys) d lt h c slot other =
      ap (λ n. cond (eqb c n) (cells_at y.table slot) (cells_from ys c slot)) (start x y h.0)
      ∙ ap₂ (λ b ss. cond b (cells_at y.table slot) (cells_from ss c slot)) other h.1
      ∙ sym (ap (λ b. cond b (cells_at x.table slot) (cells_from xs c slot)) other)
  changed-others (suc k) (x ∷ xs) (y ∷ ys) d lt h c slot other =
      ap₂ (λ (a : Slice) l. cond (eqb c a.start) (cells_at a.table slot) l) h.0 (changed-others k xs ys d (omega (arith, lt)) h.1 c slot other)
  changed-others k [] ys d lt h c slot other = absurd (omega (arith, lt))
  changed-others zero (x ∷ xs) [] d lt h c slot other = absurd h
  changed-others (suc k) (x ∷ xs) [] d lt h c slot other = absurd h

-- slices that each have a property keep it
pub changed-all : (R : Slice → Slice → Type 0) (P : Slice → Type 0) → ((x y : Slice) → R x y → P x → P y)
    → (k : ℕ) (xs ys : List Slice) → IsChangedAt k R xs ys → AllByRecursion P xs → AllByRecursion P ys
changed-all R P f zero (x ∷ xs) (y ∷ ys) h all = (f x y h.0 all.0, subst (AllByRecursion P) (sym h.1) all.1)
changed-all R P f (suc k) (x ∷ xs) (y ∷ ys) h all = (subst P (sym h.0) all.0, changed-all R P f k xs ys h.1 all.1)
changed-all R P f zero [] ys h all = absurd h
changed-all R P f (suc k) [] ys h all = absurd h
changed-all R P f zero (x ∷ xs) [] h all = absurd h
changed-all R P f (suc k) (x ∷ xs) [] h all = absurd h

-- what is counted rises by no more than in the one slice
pub changed-count : (R : Slice → Slice → Type 0) (slot : ℕ) (g : ℤ) (more : ℕ)
    → ((x y : Slice) → R x y → count_at (cells_at y.table slot) g ≤ count_at (cells_at x.table slot) g + more)
    → (k : ℕ) (xs ys : List Slice) → IsChangedAt k R xs ys → count_in ys slot g ≤ count_in xs slot g + more
changed-count R slot g more f zero (x ∷ xs) (y ∷ ys) h =
    let a = f x y h.0 in let b = ap (λ l. count_in l slot g) h.1 in omega (arith, a, b)
changed-count R slot g more f (suc k) (x ∷ xs) (y ∷ ys) h =
    let a = ap (λ (s : Slice). count_at (cells_at s.table slot) g) h.0 in let b = changed-count R slot g more f k xs ys h.1 in omega (arith, a, b)
changed-count R slot g more f zero [] ys h = absurd h
changed-count R slot g more f (suc k) [] ys h = absurd h
changed-count R slot g more f zero (x ∷ xs) [] h = absurd h
changed-count R slot g more f (suc k) (x ∷ xs) [] h = absurd h

pub changed-length : (R : Slice → Slice → Type 0) (k : ℕ) (xs ys : List Slice) → IsChangedAt k R xs ys → length ys ≡ length xs
changed-length R zero (x ∷ xs) (y ∷ ys) h = let a = ap length h.1 in omega (arith, a)
changed-length R (suc k) (x ∷ xs) (y ∷ ys) h = let a = changed-length R k xs ys h.1 in omega (arith, a)
changed-length R zero [] ys h = absurd h
changed-length R (suc k) [] ys h = absurd h
changed-length R zero (x ∷ xs) [] h = absurd h
changed-length R (suc k) (x ∷ xs) [] h = absurd h

-- one slice counts no more than all
pub count-of : (xs : List Slice) (k : ℕ) (d : Slice) (slot : ℕ) (g : ℤ) → k < length xs → count_at (cells_at (get_or xs k d).table slot) g ≤ count_in xs slot g
count-of [] k d slot g lt = absurd (omega (arith, lt))
count-of (x ∷ xs) zero d slot g lt = omega arith
count-of (x ∷ xs) (suc k) d slot g lt = let a = count-of xs k d slot g (omega (arith, lt)) in omega (arith, a)

-- ---- no slice begins where all begin later

absent-cells : (c slot : ℕ) (xs : List Slice) → AllByRecursion (λ (s : Slice). c < s.start) xs → cells_from xs c slot ≡ []
absent-cells c slot [] h = refl
absent-cells c slot (x ∷ xs) h = ap (λ b. cond b (cells_at x.table slot) (cells_from xs c slot)) (apart-below c x.start h.0) ∙ absent-cells c slot xs h.1

absent-epoch : (c : ℕ) (xs : List Slice) → AllByRecursion (λ (s : Slice). c < s.start) xs → epoch_from xs c ≡ None
absent-epoch c [] h = refl
absent-epoch c (x ∷ xs) h = ap (λ b. cond b (Some x.epoch) (epoch_from xs c)) (apart-below c x.start h.0) ∙ absent-epoch c xs h.1

all-later : (c : ℕ) (x : Slice) (xs : List Slice) → c < x.start → AllByRecursion (λ (s : Slice). x.start < s.start) xs → AllByRecursion (λ (s : Slice). c < s.start) (x ∷ xs)
all-later c x xs h rise = (h, all-by (λ (s : Slice). x.start < s.start) (λ (s : Slice). c < s.start) (λ s lt. omega (arith, h, lt)) xs rise)

-- The place where a slice that begins at a time would stand, where none does.
pub record IsGap (start k : ℕ) (xs : List Slice) : Type 0 where
  pub within : k ≤ length xs
  pub low : (j : ℕ) (d : Slice) → j < k → (get_or xs j d).start < start
  pub high : (d : Slice) → k < length xs → start < (get_or xs k d).start

gap-rest : (start k : ℕ) (x : Slice) (xs : List Slice) → IsGap start (suc k) (x ∷ xs) → IsGap start k xs
gap-rest start k x xs g = record {
  within = let w = g.within in omega (arith, w);
  low = λ j d lt. g.low (suc j) d (omega (arith, lt));
  high = λ d lt. g.high d (omega (arith, lt));
}

pub gap-cells : (start k slot : ℕ) (xs : List Slice) → StartsRise xs → IsGap start k xs → cells_from xs start slot ≡ []
gap-cells start k slot [] rise g = refl
gap-cells start zero slot (x ∷ xs) rise g = absent-cells start slot (x ∷ xs) (all-later start x xs (g.high x (omega arith)) rise.0)
gap-cells start (suc k) slot (x ∷ xs) rise g =
    ap (λ b. cond b (cells_at x.table slot) (cells_from xs start slot)) (apart-above start x.start (g.low 0 x (omega arith)))
    ∙ gap-cells start k slot xs rise.1 (gap-rest start k x xs g)

pub gap-epoch : (start k : ℕ) (xs : List Slice) → StartsRise xs → IsGap start k xs → epoch_from xs start ≡ None
gap-epoch start k [] rise g = refl
gap-epoch start zero (x ∷ xs) rise g = absent-epoch start (x ∷ xs) (all-later start x xs (g.high x (omega arith)) rise.0)
gap-epoch start (suc k) (x ∷ xs) rise g =
    ap (λ b. cond b (Some x.epoch) (epoch_from xs start)) (apart-above start x.start (g.low 0 x (omega arith)))
    ∙ gap-epoch start k xs rise.1 (gap-rest start k x xs g)

-- ---- a new slice

pub put-cells : (k slot : ℕ) (xs : List Slice) (y : Slice) → IsGap y.start k xs → (c : ℕ) → cells_from (insert xs k y) c slot ≡ cond (eqb c y.start) (cells_at y.table slot) (cells_from xs c slot)
put-cells zero slot [] y g c = refl
put-cells (suc k) slot [] y g c = absurd (let w = g.within in omega (arith, w))
put-cells zero slot (x ∷ xs) y g c = refl
put-cells (suc k) slot (x ∷ xs) y g c =
    ap (cond (eqb c x.start) (cells_at x.table slot)) (put-cells k slot xs y (gap-rest y.start k x xs g) c) ∙ by_cases (eqb c x.start) refl
  where
    by_cases : (b : Bool) → eqb c x.start ≡ b → cond b (cells_at x.table slot) (cond (eqb c y.start) (cells_at y.table slot) (cells_from xs c slot))
        ≡ cond (eqb c y.start) (cells_at y.table slot) (cond b (cells_at x.table slot) (cells_from xs c slot))
    by_cases true e =
        let low = g.low 0 x (omega arith) in
        let same = eqb-true c x.start e in
        sym (ap (λ b. cond b (cells_at y.table slot) (cells_at x.table slot)) (apart-below c y.start (omega (arith, low, same))))
    by_cases false e = refl

pub put-epoch : (k : ℕ) (xs : List Slice) (y : Slice) → IsGap y.start k xs → (c : ℕ) → epoch_from (insert xs k y) c ≡ cond (eqb c y.start) (Some y.epoch) (epoch_from xs c)
put-epoch zero [] y g c = refl
put-epoch (suc k) [] y g c = absurd (let w = g.within in omega (arith, w))
put-epoch zero (x ∷ xs) y g c = refl
put-epoch (suc k) (x ∷ xs) y g c =
    ap (cond (eqb c x.start) (Some x.epoch)) (put-epoch k xs y (gap-rest y.start k x xs g) c) ∙ by_cases (eqb c x.start) refl
  where
    by_cases : (b : Bool) → eqb c x.start ≡ b → cond b (Some x.epoch) (cond (eqb c y.start) (Some y.epoch) (epoch_from xs c))
        ≡ cond (eqb c y.start) (Some y.epoch) (cond b (Some x.epoch) (epoch_from xs c))
    by_cases true e =
        let low = g.low 0 x (omega arith) in
        let same = eqb-true c x.start e in
        sym (ap (λ b. cond b (Some y.epoch) (Some x.epoch)) (apart-below c y.start (omega (arith, low, same))))
    by_cases false e = refl

pub put-all : (P : Slice → Type 0) (k : ℕ) (xs : List Slice) (y : Slice) → AllByRecursion P xs → P y → AllByRecursion P (insert xs k y)
put-all P zero xs y all p = (p, all)
put-all P (suc k) [] y all p = (p, tt)
put-all P (suc k) (x ∷ xs) y all p = (all.0, put-all P k xs y all.1 p)

pub put-rise : (k : ℕ) (xs : List Slice) (y : Slice) → StartsRise xs → IsGap y.start k xs → StartsRise (insert xs k y)
put-rise zero [] y rise g = (tt, tt)
put-rise (suc k) [] y rise g = (tt, tt)
put-rise zero (x ∷ xs) y rise g = (all-later y.start x xs (g.high x (omega arith)) rise.0, rise)
put-rise (suc k) (x ∷ xs) y rise g =
    (put-all (λ (s : Slice). x.start < s.start) k xs y rise.0 (g.low 0 x (omega arith)), put-rise k xs y rise.1 (gap-rest y.start k x xs g))

pub put-count : (k slot : ℕ) (g : ℤ) (xs : List Slice) (y : Slice) → count_in (insert xs k y) slot g ≡ count_at (cells_at y.table slot) g + count_in xs slot g
put-count zero slot g xs y = refl
put-count (suc k) slot g [] y = refl
put-count (suc k) slot g (x ∷ xs) y = let a = put-count k slot g xs y in omega (arith, a)

-- ---- a slice less

pub less-all : (P : Slice → Type 0) (k : ℕ) (xs : List Slice) → AllByRecursion P xs → AllByRecursion P (without k xs)
less-all P zero [] all = tt
less-all P (suc k) [] all = tt
less-all P zero (x ∷ xs) all = all.1
less-all P (suc k) (x ∷ xs) all = (all.0, less-all P k xs all.1)

pub less-rise : (k : ℕ) (xs : List Slice) → StartsRise xs → StartsRise (without k xs)
less-rise zero [] rise = tt
less-rise (suc k) [] rise = tt
less-rise zero (x ∷ xs) rise = rise.1
less-rise (suc k) (x ∷ xs) rise = (less-all (λ (s : Slice). x.start < s.start) k xs rise.0, less-rise k xs rise.1)

pub less-count : (k slot : ℕ) (g : ℤ) (xs : List Slice) → count_in (without k xs) slot g ≤ count_in xs slot g
less-count zero slot g [] = omega arith
less-count (suc k) slot g [] = omega arith
less-count zero slot g (x ∷ xs) = omega arith
less-count (suc k) slot g (x ∷ xs) = let a = less-count k slot g xs in omega (arith, a)

-- one without cells is not missed
pub less-cells : (k slot : ℕ) (xs : List Slice) (d : Slice) → StartsRise xs → k < length xs → cells_at (get_or xs k d).table slot ≡ []
    → (c : ℕ) → cells_from (without k xs) c slot ≡ cells_from xs c slot
less-cells k slot [] d rise lt none c = absurd (omega (arith, lt))
less-cells zero slot (x ∷ xs) d rise lt none c = by_cases (eqb c x.start) refl
  where
    by_cases : (b : Bool) → eqb c x.start ≡ b → cells_from xs c slot ≡ cond b (cells_at x.table slot) (cells_from xs c slot)
    by_cases true e = absent-cells c slot xs (subst (λ n. AllByRecursion (λ (s : Slice). n < s.start) xs) (sym (eqb-true c x.start e)) rise.0) ∙ sym none
    by_cases false e = refl
less-cells (suc k) slot (x ∷ xs) d rise lt none c = ap (cond (eqb c x.start) (cells_at x.table slot)) (less-cells k slot xs d rise.1 (omega (arith, lt)) none c)

pub less-epoch : (k : ℕ) (xs : List Slice) (d : Slice) → StartsRise xs → k < length xs → (c : ℕ) → epoch_from (without k xs) c ≡ cond (eqb c (get_or xs k d).start) None (epoch_from xs c)
less-epoch k [] d rise lt c = absurd (omega (arith, lt))
less-epoch zero (x ∷ xs) d rise lt c = by_cases (eqb c x.start) refl
  where
    by_cases : (b : Bool) → eqb c x.start ≡ b → epoch_from xs c ≡ cond b None (cond b (Some x.epoch) (epoch_from xs c))
    by_cases true e = absent-epoch c xs (subst (λ n. AllByRecursion (λ (s : Slice). n < s.start) xs) (sym (eqb-true c x.start e)) rise.0)
    by_cases false e = refl
less-epoch (suc k) (x ∷ xs) d rise lt c =
    ap (cond (eqb c x.start) (Some x.epoch)) (less-epoch k xs d rise.1 (omega (arith, lt)) c) ∙ by_cases (eqb c x.start) refl
  where
    at : ℕ
    at = (get_or xs k d).start

    later : x.start < at
    later = all-at (λ (s : Slice). x.start < s.start) xs rise.0 k d (omega (arith, lt))

    by_cases : (b : Bool) → eqb c x.start ≡ b → cond b (Some x.epoch) (cond (eqb c at) None (epoch_from xs c)) ≡ cond (eqb c at) None (cond b (Some x.epoch) (epoch_from xs c))
    by_cases true e = let same = eqb-true c x.start e in sym (ap (λ b. cond b None (Some x.epoch)) (apart-below c at (omega (arith, later, same))))
    by_cases false e = refl

-- between a time and the first slice from it on there are no cells
pub none-between : (from c k slot : ℕ) (xs : List Slice) → StartsRise xs → k ≡ begun_before from xs → k ≤ length xs → from ≤ c → ((d : Slice) → k < length xs → c < (get_or xs k d).start)
    → cells_from xs c slot ≡ []
none-between from c k slot xs rise is within low high = gap-cells c k slot xs rise (record {
  within = within;
  low = λ j d lt. let b = begins-before from xs rise j d (omega (arith, lt, is)) in omega (arith, b, low);
  high = high;
})

-- a slice that is there, whatever stands for one that is not
pub slice-there : (xs : List Slice) (k : ℕ) (d e : Slice) → k < length xs → get_or xs k d ≡ get_or xs k e
slice-there [] k d e lt = absurd (omega (arith, lt))
slice-there (x ∷ xs) zero d e lt = refl
slice-there (x ∷ xs) (suc k) d e lt = slice-there xs k d e (omega (arith, lt))
