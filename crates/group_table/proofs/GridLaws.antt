-- Cells in rows, where a place changes.
use Rattle.std.proofs.Common.{◌≡◌, inl, inr, ℕ, ℤ, pos, zero, suc, ◌+◌, ◌≤◌, ◌<◌, ◌==◌, Bool, cond, true, false, true≢false, List, [], ◌∷◌, ◌++◌, length, get_or, set, take, drop, replicate, Some, slice_get, refl, sym, ap, ap₂, subst, ◌∙◌, append_assoc, append-nil, arith, length-append, length-set}
use Rattle.std.specs.List.{fold, list_any, AllByRecursion}
use Rattle.std.specs.Ordering.{int_eq}
use Rattle.std.proofs.lemmas.Bool.{cases_eq, eq-eqb, ne_eqb, or_parts, false_from_ne_true}
use Rattle.std.proofs.lemmas.Int.{ints}
use Rattle.std.proofs.lemmas.List.{get_or-set_other, get_or_past}
use Rattle.std.proofs.lemmas.List.Sums.{fold-append}
use Rattle.indexmap.specs.IndexSet.{insert_key}
use Rattle.as_base.specs.declared.fragment.Cell.{Cell}
use Rattle.group_table.specs.Cells.{blank, plus, add_in, count_at, times, IsSound}
use Rattle.group_table.specs.Grids.{shown, all_shown, column, without, IsPlace, AreRows, AreApart}
use Rattle.group_table.proofs.CellLaws.{add_in_in, fold_last, plus_turn, one}
use Rattle.group_table.proofs.SumLaws.{eq-from, eq-to}
use Rattle.group_table.proofs.HeldLaws.{sound-plus}
use Rattle.group_table.proofs.ListLaws.{all-set, all-append, all-replicate}

-- ---- a place

pub shown-none : (c : Cell) → c.count ≡ 0 → shown c ≡ []
shown-none c e = ap (λ t. cond t [] (c ∷ [])) (eq-eqb c.count 0 e)

pub shown-some : (c : Cell) → 0 < c.count → shown c ≡ c ∷ []
shown-some c h = ap (λ t. cond t [] (c ∷ [])) (ne_eqb c.count 0 (λ e. omega (arith, e, h)))

-- a cell added to what counts nothing
plus-nothing : (c d : Cell) → IsSound d → d.count ≡ 0 → plus c d ≡ c
plus-nothing c d h e =
    let a = h.above in
    let b = h.below in
    let zero_sum : d.sum ≡ pos 0 = omega (arith, ints, a, b, e) in
    ap₂ (λ s n. record { group = c.group; sum = s; count = n }) (omega (arith, ints, zero_sum)) (omega (arith, e))

-- a cell added to a place is added to its cell, where there is one
shown-plus : (g : ℤ) (c d : Cell) → 0 < c.count → c.group ≡ g → IsPlace g d → shown (plus c d) ≡ add_in (shown d) c
shown-plus g c d some same h = elim (cases_eq d.count 0) [
  | inl e ↦ shown-some (plus c d) (omega (arith, some)) ∙ ap (λ k. k ∷ []) (plus-nothing c d h.sound e) ∙ sym (ap (λ l. add_in l c) (shown-none d e))
  | inr n ↦
      let there : 0 < d.count = omega (arith, n) in
      let is : d.group ≡ c.group = h.group_is there ∙ sym same in
      shown-some (plus c d) (omega (arith, some)) ∙ ap (λ k. k ∷ []) (plus_turn c d (sym is)) ∙ sym (ap (λ l. add_in l c) (shown-some d there) ∙ one d [] c is)
]

-- the cell in a place is part of what its group counts
place-count : (g : ℤ) (d : Cell) → IsPlace g d → d.count ≤ count_at (shown d) g
place-count g d h = elim (cases_eq d.count 0) [
  | inl e ↦ omega (arith, e)
  | inr n ↦
      let there : 0 < d.count = omega (arith, n) in
      let a = ap (λ l. count_at l g) (shown-some d there) in
      let b = ap (λ t. cond {A = ℕ} t d.count 0) (eq-to d.group g (h.group_is there)) in
      omega (arith, a, b)
]

-- a place has cells of its group alone, and one at most
place-times : (g k : ℤ) (d : Cell) → IsPlace g d → times k (shown d) ≤ cond (int_eq g k) 1 0
place-times g k d h = elim (cases_eq d.count 0) [
  | inl e ↦ let a = ap (times k) (shown-none d e) in omega (arith, a)
  | inr n ↦
      let there : 0 < d.count = omega (arith, n) in
      let a = ap (times k) (shown-some d there) in
      let b = ap (λ x. cond {A = ℕ} (int_eq x k) 1 0) (h.group_is there) in
      omega (arith, a, b)
]

-- an empty place is one of every group
pub blank-is : (g : ℤ) → IsPlace g blank
blank-is g = record { sound = record { above = omega (arith, ints); below = omega (arith, ints) }; group_is = λ h. absurd (omega (arith, h)) }

-- a cell added to a place
pub plus-is : (g : ℤ) (c d : Cell) → IsSound c → c.group ≡ g → IsPlace g d → IsPlace g (plus c d)
plus-is g c d sound same h = record { sound = sound-plus c d sound h.sound; group_is = λ some. same }

-- ---- a column

-- each place of a column is of the group of its row, and those beyond the groups are empty
abbrev AreOf : List ℤ → List Cell → Type 0
AreOf [] [] = Unit {0}
AreOf [] (c ∷ cs) = (c ≡ blank) × AreOf [] cs
AreOf (key ∷ keys) [] = Unit {0}
AreOf (key ∷ keys) (c ∷ cs) = IsPlace key c × AreOf keys cs

none-shown : (cs : List Cell) → AreOf [] cs → all_shown cs ≡ []
none-shown [] h = refl
none-shown (c ∷ cs) h = ap (λ d. shown d ++ all_shown cs) h.0 ∙ none-shown cs h.1

pub place-in : (g : ℤ) (row : List Cell) (number : ℕ) → AllByRecursion (IsPlace g) row → IsPlace g (get_or row number blank)
place-in g [] number h = blank-is g
place-in g (c ∷ cs) zero h = h.0
place-in g (c ∷ cs) (suc number) h = place-in g cs number h.1

pub of-column : (keys : List ℤ) (rows : List (List Cell)) (number : ℕ) → AreRows keys rows → AreOf keys (column number rows)
of-column [] [] number h = tt
of-column [] (row ∷ rows) number h = (ap (λ (r : List Cell). get_or r number blank) h.0, of-column [] rows number h.1)
of-column (k ∷ keys) [] number h = tt
of-column (k ∷ keys) (row ∷ rows) number h = (place-in k row number h.0, of-column keys rows number h.1)

-- where the first place has a cell more, the column has
shown-first : (b : List Cell) (d : Cell) (ds : List Cell) (g : ℤ) (c : Cell) → 0 < c.count → c.group ≡ g → IsPlace g d
    → fold add_in b (all_shown (plus c d ∷ ds)) ≡ add_in (fold add_in b (all_shown (d ∷ ds))) c
shown-first b d ds g c some same h =
    fold-append add_in b (shown (plus c d)) (all_shown ds)
    ∙ ap (λ l. fold add_in (fold add_in b l) (all_shown ds)) (shown-plus g c d some same h)
    ∙ ap (λ l. fold add_in l (all_shown ds)) (add_in_in (shown d) b c)
    ∙ fold_last (fold add_in b (shown d)) c (all_shown ds)
    ∙ sym (ap (λ l. add_in l c) (fold-append add_in b (shown d) (all_shown ds)))

-- where one place has a cell more, the column has
pub shown-set : (b : List Cell) (cs : List Cell) (row : ℕ) (g : ℤ) (c : Cell) → row < length cs → 0 < c.count → c.group ≡ g → IsPlace g (get_or cs row blank)
    → fold add_in b (all_shown (set cs row (plus c (get_or cs row blank)))) ≡ add_in (fold add_in b (all_shown cs)) c
shown-set b [] row g c low some same h = absurd (omega (arith, low))
shown-set b (d ∷ ds) zero g c low some same h = shown-first b d ds g c some same h
shown-set b (d ∷ ds) (suc row) g c low some same h =
    fold-append add_in b (shown d) (all_shown (set ds row (plus c (get_or ds row blank))))
    ∙ shown-set (fold add_in b (shown d)) ds row g c (omega (arith, low)) some same h
    ∙ sym (ap (λ l. add_in l c) (fold-append add_in b (shown d) (all_shown ds)))

pub length-shown : (d : Cell) → length (shown d) ≡ cond (d.count == 0) 0 1
length-shown d = by (d.count == 0)
  where
    by : (t : Bool) → length (cond t [] (d ∷ [])) ≡ cond t 0 1
    by true = refl
    by false = refl

pub shown-most : (d : Cell) → length (shown d) ≤ 1
shown-most d = let a = length-shown d in let b = by (d.count == 0) in omega (arith, a, b)
  where
    by : (t : Bool) → cond {A = ℕ} t 0 1 ≤ 1
    by true = omega arith
    by false = omega arith

-- another place has as many cells more
pub length-set-shown : (cs : List Cell) (row : ℕ) (d : Cell) → row < length cs → length (all_shown (set cs row d)) + length (shown (get_or cs row blank)) ≡ length (all_shown cs) + length (shown d)
length-set-shown [] row d low = absurd (omega (arith, low))
length-set-shown (c ∷ cs) zero d low = let a = length-append (shown d) (all_shown cs) in let b = length-append (shown c) (all_shown cs) in omega (arith, a, b)
length-set-shown (c ∷ cs) (suc row) d low =
    let a = length-append (shown c) (all_shown (set cs row d)) in
    let b = length-append (shown c) (all_shown cs) in
    let h = length-set-shown cs row d (omega (arith, low)) in
    omega (arith, a, b, h)

count-append : (xs ys : List Cell) (g : ℤ) → count_at (xs ++ ys) g ≡ count_at xs g + count_at ys g
count-append [] ys g = omega arith
count-append (x ∷ xs) ys g = let h = count-append xs ys g in omega (arith, h)

pub times-append : (g : ℤ) (xs ys : List Cell) → times g (xs ++ ys) ≡ times g xs + times g ys
times-append g [] ys = omega arith
times-append g (x ∷ xs) ys = let h = times-append g xs ys in omega (arith, h)

-- what the place of a row counts is part of what its group counts
pub count-place : (keys : List ℤ) (cs : List Cell) (row : ℕ) (g : ℤ) → AreOf keys cs → slice_get keys row ≡ Some g → (get_or cs row blank).count ≤ count_at (all_shown cs) g
count-place [] cs row g h at = absurd (cc)
count-place (k ∷ keys) [] row g h at = omega arith
count-place (k ∷ keys) (c ∷ cs) zero g h at =
    let a = count-append (shown c) (all_shown cs) g in
    let b = place-count g c (subst (λ g. IsPlace g c) (let e : k ≡ g = (cc) in e) h.0) in
    omega (arith, a, b)
count-place (k ∷ keys) (c ∷ cs) (suc row) g h at =
    let a = count-append (shown c) (all_shown cs) g in
    let b = count-place keys cs row g h.1 at in
    omega (arith, a, b)

absent-times : (g : ℤ) (keys : List ℤ) (cs : List Cell) → AreOf keys cs → AllByRecursion (λ later. int_eq g later ≡ false) keys → times g (all_shown cs) ≡ 0
absent-times g [] [] h n = refl
absent-times g [] (c ∷ cs) h n = ap (times g) (none-shown (c ∷ cs) h)
absent-times g (k ∷ keys) [] h n = refl
absent-times g (k ∷ keys) (c ∷ cs) h n =
    let a = times-append g (shown c) (all_shown cs) in
    let b = place-times k g c h.0 in
    let e = ap (λ t. cond {A = ℕ} t 1 0) (turn n.0) in
    let m = absent-times g keys cs h.1 n.1 in
    omega (arith, a, b, e, m)
  where
    turn : int_eq g k ≡ false → int_eq k g ≡ false
    turn e = false_from_ne_true (int_eq k g) (λ f. true≢false (sym (eq-to g k (sym (eq-from k g f))) ∙ e))

-- no column has two cells of one group
pub once-column : (keys : List ℤ) (cs : List Cell) (g : ℤ) → AreOf keys cs → AreApart keys → times g (all_shown cs) ≤ 1
once-column [] [] g h apart = omega arith
once-column [] (c ∷ cs) g h apart = let a = ap (times g) (none-shown (c ∷ cs) h) in omega (arith, a)
once-column (k ∷ keys) [] g h apart = omega arith
once-column (k ∷ keys) (c ∷ cs) g h apart = go (int_eq k g) refl (once-column keys cs g h.1 apart.1)
  where
    go : (t : Bool) → int_eq k g ≡ t → times g (all_shown cs) ≤ 1 → times g (all_shown (c ∷ cs)) ≤ 1
    go false e m =
        let a = times-append g (shown c) (all_shown cs) in
        let b = place-times k g c h.0 in
        let f = ap (λ t. cond {A = ℕ} t 1 0) e in
        omega (arith, a, b, f, m)
    go true e m =
        let none = absent-times g keys cs h.1 (subst (λ y. AllByRecursion (λ later. int_eq y later ≡ false) keys) (eq-from k g e) apart.0) in
        let a = times-append g (shown c) (all_shown cs) in
        let b = place-times k g c h.0 in
        let f = ap (λ t. cond {A = ℕ} t 1 0) e in
        omega (arith, a, b, f, none)

pub sound-column : (keys : List ℤ) (cs : List Cell) → AreOf keys cs → AllByRecursion IsSound (all_shown cs)
sound-column [] [] h = tt
sound-column [] (c ∷ cs) h = subst (AllByRecursion IsSound) (sym (none-shown (c ∷ cs) h)) tt
sound-column (k ∷ keys) [] h = tt
sound-column (k ∷ keys) (c ∷ cs) h = all-append IsSound (shown c) (all_shown cs) (by (c.count == 0)) (sound-column keys cs h.1)
  where
    by : (t : Bool) → AllByRecursion IsSound (cond t [] (c ∷ []))
    by true = tt
    by false = (h.0.sound, tt)

pub some-column : (cs : List Cell) → AllByRecursion (λ (c : Cell). 0 < c.count) (all_shown cs)
some-column [] = tt
some-column (c ∷ cs) = all-append (λ (c : Cell). 0 < c.count) (shown c) (all_shown cs) (elim (cases_eq c.count 0) [
  | inl e ↦ subst (AllByRecursion (λ (c : Cell). 0 < c.count)) (sym (shown-none c e)) tt
  | inr n ↦ let some : 0 < c.count = omega (arith, n) in subst (AllByRecursion (λ (c : Cell). 0 < c.count)) (sym (shown-some c some)) (some, tt)
]) (some-column cs)

-- ---- columns of rows

pub length-column : (number : ℕ) (rows : List (List Cell)) → length (column number rows) ≡ length rows
length-column number [] = refl
length-column number (row ∷ rows) = ap suc (length-column number rows)

pub column-at : (number : ℕ) (rows : List (List Cell)) (row : ℕ) → get_or (column number rows) row blank ≡ get_or (get_or rows row []) number blank
column-at number [] row = refl
column-at number (r ∷ rows) zero = refl
column-at number (r ∷ rows) (suc row) = column-at number rows row

pub column-set : (number : ℕ) (rows : List (List Cell)) (row : ℕ) (new : List Cell) → column number (set rows row new) ≡ set (column number rows) row (get_or new number blank)
column-set number [] row new = refl
column-set number (r ∷ rows) zero new = refl
column-set number (r ∷ rows) (suc row) new = ap (λ l. get_or r number blank ∷ l) (column-set number rows row new)

set-own : (cs : List Cell) (row : ℕ) → set cs row (get_or cs row blank) ≡ cs
set-own [] row = refl
set-own (c ∷ cs) zero = refl
set-own (c ∷ cs) (suc row) = ap (λ l. c ∷ l) (set-own cs row)

-- a row with the same place leaves the column
pub column-same : (number : ℕ) (rows : List (List Cell)) (row : ℕ) (new : List Cell) → get_or new number blank ≡ get_or (get_or rows row []) number blank → column number (set rows row new) ≡ column number rows
column-same number rows row new e = column-set number rows row new ∙ ap (set (column number rows) row) (e ∙ sym (column-at number rows row)) ∙ set-own (column number rows) row

-- rows without places have no cells
pub column-none : (number k : ℕ) → all_shown (column number (replicate k [])) ≡ []
column-none number zero = refl
column-none number (suc k) = column-none number k

pub column-pad : (number : ℕ) (rows : List (List Cell)) (k : ℕ) → all_shown (column number (rows ++ replicate k [])) ≡ all_shown (column number rows)
column-pad number [] k = column-none number k
column-pad number (row ∷ rows) k = ap (λ l. shown (get_or row number blank) ++ l) (column-pad number rows k)

-- a column beyond all rows has none
pub column-past : (number width : ℕ) (rows : List (List Cell)) → AllByRecursion (λ (row : List Cell). length row ≤ width) rows → width ≤ number → all_shown (column number rows) ≡ []
column-past number width [] h far = refl
column-past number width (row ∷ rows) h far =
    let short = h.0 in
    ap (λ c. shown c ++ all_shown (column number rows)) (get_or_past row number blank (omega (arith, short, far))) ∙ column-past number width rows h.1 far

blank-at : (k number : ℕ) → get_or (replicate k blank) number blank ≡ blank
blank-at zero number = refl
blank-at (suc k) zero = refl
blank-at (suc k) (suc number) = blank-at k number

-- empty places behind a row change none of its places
pub pad-at : (row : List Cell) (k number : ℕ) → get_or (row ++ replicate k blank) number blank ≡ get_or row number blank
pad-at [] k number = blank-at k number
pad-at (c ∷ row) k zero = refl
pad-at (c ∷ row) k (suc number) = pad-at row k number

blanked-same : (row : List Cell) (number : ℕ) → get_or (set row number blank) number blank ≡ blank
blanked-same [] number = refl
blanked-same (c ∷ row) zero = refl
blanked-same (c ∷ row) (suc number) = blanked-same row number

pub without-same : (number : ℕ) (rows : List (List Cell)) → all_shown (column number (without number rows)) ≡ []
without-same number [] = refl
without-same number (row ∷ rows) = ap (λ c. shown c ++ all_shown (column number (without number rows))) (blanked-same row number) ∙ without-same number rows

pub without-other : (number other : ℕ) (rows : List (List Cell)) → (other ≡ number → ⊥) → column other (without number rows) ≡ column other rows
without-other number other [] n = refl
without-other number other (row ∷ rows) n = ap₂ (λ c l. c ∷ l) (get_or-set_other row number other blank blank n) (without-other number other rows n)

-- ---- going over rows

-- the cells of a row more
pub shown-next : (number : ℕ) (rows : List (List Cell)) (i : ℕ) (d : List Cell) → i < length rows → all_shown (column number (take (i + 1) rows)) ≡ all_shown (column number (take i rows)) ++ shown (get_or (get_or rows i d) number blank)
shown-next number [] i d low = absurd (omega (arith, low))
shown-next number (row ∷ rows) zero d low = append-nil (shown (get_or row number blank))
shown-next number (row ∷ rows) (suc i) d low =
    let n : suc i + 1 ≡ suc (i + 1) = omega arith in
    ap (λ n. all_shown (column number (take n (row ∷ rows)))) n
    ∙ ap (λ l. shown (get_or row number blank) ++ l) (shown-next number rows i d (omega (arith, low)))
    ∙ sym (append_assoc (shown (get_or row number blank)) (all_shown (column number (take i rows))) (shown (get_or (get_or rows i d) number blank)))

-- the rows that are still to come are as they were
pub still-at : (number : ℕ) (rows : List (List Cell)) (i : ℕ) (d : List Cell) → i < length rows → get_or (without number (take i rows) ++ drop i rows) i d ≡ get_or rows i d
still-at number [] i d low = absurd (omega (arith, low))
still-at number (row ∷ rows) zero d low = refl
still-at number (row ∷ rows) (suc i) d low = still-at number rows i d (omega (arith, low))

pub blanked-next : (number : ℕ) (rows : List (List Cell)) (i : ℕ) (d : List Cell) → i < length rows
    → set (without number (take i rows) ++ drop i rows) i (set (get_or rows i d) number blank) ≡ without number (take (i + 1) rows) ++ drop (i + 1) rows
blanked-next number [] i d low = absurd (omega (arith, low))
blanked-next number (row ∷ rows) zero d low = refl
blanked-next number (row ∷ rows) (suc i) d low =
    let n : suc i + 1 ≡ suc (i + 1) = omega arith in
    ap (λ l. set row number blank ∷ l) (blanked-next number rows i d (omega (arith, low))) ∙ sym (ap (λ n. without number (take n (row ∷ rows)) ++ drop n (row ∷ rows)) n)

-- ---- rows

pub get-low : (keys : List ℤ) (row : ℕ) (g : ℤ) → slice_get keys row ≡ Some g → row < length keys
get-low [] row g at = absurd (cc)
get-low (k ∷ keys) zero g at = omega arith
get-low (k ∷ keys) (suc row) g at = let h = get-low keys row g at in omega (arith, h)

pub rows-at : (keys : List ℤ) (rows : List (List Cell)) (row : ℕ) (g : ℤ) → AreRows keys rows → slice_get keys row ≡ Some g → AllByRecursion (IsPlace g) (get_or rows row [])
rows-at [] rows row g h at = absurd (cc)
rows-at (k ∷ keys) [] row g h at = tt
rows-at (k ∷ keys) (r ∷ rows) zero g h at = subst (λ g. AllByRecursion (IsPlace g) r) (let e : k ≡ g = (cc) in e) h.0
rows-at (k ∷ keys) (r ∷ rows) (suc row) g h at = rows-at keys rows row g h.1 at

pub rows-set : (keys : List ℤ) (rows : List (List Cell)) (row : ℕ) (g : ℤ) (new : List Cell) → AreRows keys rows → slice_get keys row ≡ Some g → AllByRecursion (IsPlace g) new → AreRows keys (set rows row new)
rows-set [] rows row g new h at one = absurd (cc)
rows-set (k ∷ keys) [] row g new h at one = tt
rows-set (k ∷ keys) (r ∷ rows) zero g new h at one = (subst (λ g. AllByRecursion (IsPlace g) new) (let e : g ≡ k = (cc) in e) one, h.1)
rows-set (k ∷ keys) (r ∷ rows) (suc row) g new h at one = (h.0, rows-set keys rows row g new h.1 at one)

pub rows-nothing : (keys : List ℤ) (k : ℕ) → AreRows keys (replicate k [])
rows-nothing [] zero = tt
rows-nothing [] (suc k) = (refl, rows-nothing [] k)
rows-nothing (key ∷ keys) zero = tt
rows-nothing (key ∷ keys) (suc k) = (tt, rows-nothing keys k)

pub rows-pad : (keys : List ℤ) (rows : List (List Cell)) (k : ℕ) → AreRows keys rows → AreRows keys (rows ++ replicate k [])
rows-pad keys [] k h = rows-nothing keys k
rows-pad [] (row ∷ rows) k h = (h.0, rows-pad [] rows k h.1)
rows-pad (key ∷ keys) (row ∷ rows) k h = (h.0, rows-pad keys rows k h.1)

pub rows-without : (keys : List ℤ) (rows : List (List Cell)) (number : ℕ) → AreRows keys rows → AreRows keys (without number rows)
rows-without [] [] number h = tt
rows-without [] (row ∷ rows) number h = (ap (λ (r : List Cell). set r number blank) h.0, rows-without [] rows number h.1)
rows-without (key ∷ keys) [] number h = tt
rows-without (key ∷ keys) (row ∷ rows) number h = (all-set (IsPlace key) row number blank h.0 (blank-is key), rows-without keys rows number h.1)

pub narrow-without : (width number : ℕ) (rows : List (List Cell)) → AllByRecursion (λ (row : List Cell). length row ≤ width) rows → AllByRecursion (λ (row : List Cell). length row ≤ width) (without number rows)
narrow-without width number [] h = tt
narrow-without width number (row ∷ rows) h = (let a = length-set row number blank in let b = h.0 in omega (arith, a, b), narrow-without width number rows h.1)

pub length-without : (number : ℕ) (rows : List (List Cell)) → length (without number rows) ≡ length rows
length-without number [] = refl
length-without number (row ∷ rows) = ap suc (length-without number rows)

pub narrow-wider : (width wider : ℕ) (rows : List (List Cell)) → width ≤ wider → AllByRecursion (λ (row : List Cell). length row ≤ width) rows → AllByRecursion (λ (row : List Cell). length row ≤ wider) rows
narrow-wider width wider [] le h = tt
narrow-wider width wider (row ∷ rows) le h = (let b = h.0 in omega (arith, le, b), narrow-wider width wider rows le h.1)

pub pad-is : (g : ℤ) (row : List Cell) (k : ℕ) → AllByRecursion (IsPlace g) row → AllByRecursion (IsPlace g) (row ++ replicate k blank)
pad-is g row k h = all-append (IsPlace g) row (replicate k blank) h (all-replicate (IsPlace g) k blank (blank-is g))

-- ---- groups

-- a new group stays apart
apart-push : (gs : List ℤ) (g : ℤ) → AreApart gs → list_any (int_eq g) gs ≡ false → AreApart (gs ++ g ∷ [])
apart-push [] g h n = (tt, tt)
apart-push (x ∷ gs) g h n =
    let p = or_parts (int_eq g x) (list_any (int_eq g) gs) n in
    let other : int_eq x g ≡ false = false_from_ne_true (int_eq x g) (λ f. true≢false (sym (eq-to g x (sym (eq-from x g f))) ∙ p.0)) in
    (all-append (λ later. int_eq x later ≡ false) gs (g ∷ []) h.0 (other, tt), apart-push gs g h.1 p.1)

-- the groups with one more, if it is new
apart-insert : (gs : List ℤ) (g : ℤ) → AreApart gs → AreApart (insert_key int_eq gs g)
apart-insert gs g h = go (list_any (int_eq g) gs) refl
  where
    go : (t : Bool) → list_any (int_eq g) gs ≡ t → AreApart (cond t gs (gs ++ g ∷ []))
    go true e = h
    go false e = apart-push gs g h e

-- a group more changes nothing
rows-more : (keys : List ℤ) (rows : List (List Cell)) (g : ℤ) → AreRows keys rows → AreRows (keys ++ g ∷ []) rows
rows-more [] [] g h = tt
rows-more [] (row ∷ rows) g h = (subst (AllByRecursion (IsPlace g)) (sym h.0) tt, h.1)
rows-more (k ∷ keys) [] g h = tt
rows-more (k ∷ keys) (row ∷ rows) g h = (h.0, rows-more keys rows g h.1)

rows-insert : (gs : List ℤ) (g : ℤ) (rows : List (List Cell)) → AreRows gs rows → AreRows (insert_key int_eq gs g) rows
rows-insert gs g rows h = go (list_any (int_eq g) gs)
  where
    go : (t : Bool) → AreRows (cond t gs (gs ++ g ∷ [])) rows
    go true = h
    go false = rows-more gs rows g h

long-insert : (gs : List ℤ) (g : ℤ) → length (insert_key int_eq gs g) ≤ length gs + 1
long-insert gs g = go (list_any (int_eq g) gs)
  where
    go : (t : Bool) → length (cond t gs (gs ++ g ∷ [])) ≤ length gs + 1
    go true = omega arith
    go false = let a = length-append gs (g ∷ []) in omega (arith, a)

pub keys-apart : (gs new : List ℤ) (g : ℤ) → new ≡ insert_key int_eq gs g → AreApart gs → AreApart new
keys-apart gs new g e h = subst AreApart (sym e) (apart-insert gs g h)

pub keys-of : (gs new : List ℤ) (g : ℤ) (rows : List (List Cell)) → new ≡ insert_key int_eq gs g → AreRows gs rows → AreRows new rows
keys-of gs new g rows e h = subst (λ keys. AreRows keys rows) (sym e) (rows-insert gs g rows h)

pub keys-long : (gs new : List ℤ) (g : ℤ) → new ≡ insert_key int_eq gs g → length new ≤ length gs + 1
keys-long gs new g e = let a = ap length e in let b = long-insert gs g in omega (arith, a, b)
