-- Rows and columns as a whole, where a call changes them.
use Rattle.std.proofs.Common.{◌≡◌, inl, inr, ℕ, ℤ, zero, suc, ◌+◌, ◌-◌, ◌≤◌, ◌<◌, ◌^◌, ◌==◌, Bool, cond, true, false, List, [], ◌∷◌, ◌++◌, length, get_or, set, replicate, Some, slice_get, refl, sym, ap, ap₂, subst, ◌∙◌, arith, length-append, length-set}
use Rattle.std.specs.List.{AllByRecursion}
use Rattle.std.proofs.lemmas.Bool.{cases_eq, cases_lt, eqb-true, eq-eqb, ne_eqb}
use Rattle.as_base.specs.declared.fragment.Cell.{Cell}
use Rattle.group_table.specs.Cells.{blank, plus, add_in, sums, count_at, IsSound, AreCells}
use Rattle.group_table.specs.Grids.{shown, all_shown, column, without, place_of, IsPlace, AreRows, AreApart, AreGiven, AreMore, Takes, HasAdded, IsLarge}
use Rattle.group_table.proofs.SumLaws.{count-sums}
use Rattle.group_table.proofs.ListLaws.{all-at, all-set, all-append, all-replicate}
use Rattle.group_table.proofs.TotalLaws.{total-same, total-step, total-part, total-empty, total-four}
use Rattle.group_table.proofs.GridLaws.{place-in, of-column, shown-set, length-set-shown, count-place, once-column, sound-column, some-column, length-column, column-at, column-set, column-same, column-none, column-pad, column-past, pad-at, without-same, without-other, get-low, rows-at, rows-set, rows-nothing, rows-pad, rows-without, narrow-without, length-without, narrow-wider, pad-is}

-- the cells of a slot
abbrev pub cells_in : List ℕ → List (List Cell) → ℕ → List Cell
cells_in numbers rows s = all_shown (column (get_or numbers s 512) rows)

module _ (keys : List ℤ) (rows : List (List Cell)) (numbers : List ℕ) (width count : ℕ) (h : IsLarge keys rows numbers width count) where
  pub large-cells : (s : ℕ) → AreCells (cells_in numbers rows s)
  large-cells s =
      let cs = column (get_or numbers s 512) rows in
      let of = of-column keys rows (get_or numbers s 512) h.each in
      record { once = λ g. once-column keys cs g of h.apart; sound = sound-column keys cs of; some = some-column cs }

  -- a slot without a column has no cells
  pub large-none : (s : ℕ) → width ≤ get_or numbers s 512 → cells_in numbers rows s ≡ []
  large-none s far = column-past (get_or numbers s 512) width rows h.narrow far

  pub row-low : (row : ℕ) (g : ℤ) → slice_get keys row ≡ Some g → row < length rows
  row-low row g at = let a = get-low keys row g at in let b = h.room in omega (arith, a, b)

  -- a row has room for a cell more
  pub large-takes : (row : ℕ) (slots : List Bool) (c : Cell) → slice_get keys row ≡ Some c.group → IsSound c → 0 < c.count → length numbers ≡ 512 → AreGiven (record { numbers = numbers; width = width })
      → ((s : ℕ) → get_or slots s false ≡ true → get_or numbers s 512 < length (get_or rows row []))
      → ((s : ℕ) → get_or slots s false ≡ true → count_at (sums (cells_in numbers rows s)) c.group + c.count ≤ 2 ^ 62)
      → Takes (get_or rows row []) numbers slots c
  large-takes row slots c at sound some long given within few = record {
    sound = sound;
    some = some;
    held = rows-at keys rows row c.group h.each at;
    long = long;
    within = within;
    apart = λ s t low e. given s t (let a = narrow in omega (arith, a, low)) e;
    few = λ s on.
        let a = count-place keys (column (get_or numbers s 512) rows) row c.group (of-column keys rows (get_or numbers s 512) h.each) at in
        let b = ap (λ (d : Cell). d.count) (column-at (get_or numbers s 512) rows row) in
        let d = count-sums c.group (cells_in numbers rows s) in
        let f = few s on in
        omega (arith, a, b, d, f);
  }
    where
      narrow : length (get_or rows row []) ≤ width
      narrow = all-at (λ (r : List Cell). length r ≤ width) rows row [] (row-low row c.group at) h.narrow

  module _ (row : ℕ) (slots : List Bool) (c : Cell) (after : List (List Cell)) (fresh : ℕ) (at : slice_get keys row ≡ Some c.group) (is : after ≡ set rows row (get_or after row []))
      (a : HasAdded (get_or rows row []) (get_or after row []) numbers slots c fresh) where
    abbrev new : List Cell
    new = get_or after row []

    old-at : (s : ℕ) → get_or (column (get_or numbers s 512) rows) row blank ≡ place_of numbers (get_or rows row []) s
    old-at s = column-at (get_or numbers s 512) rows row

    low : (s : ℕ) → row < length (column (get_or numbers s 512) rows)
    low s = let e = length-column (get_or numbers s 512) rows in let b = row-low row c.group at in omega (arith, e, b)

    -- a cell is added to those of each of the slots
    pub added-sums : (s : ℕ) → 0 < c.count → sums (cells_in numbers after s) ≡ cond (get_or slots s false) (add_in (sums (cells_in numbers rows s)) c) (sums (cells_in numbers rows s))
    added-sums s some = ap (λ l. sums (cells_in numbers l s)) is ∙ go (get_or slots s false) (a.cells s)
      where
        go : (t : Bool) → place_of numbers new s ≡ cond t (plus c (place_of numbers (get_or rows row []) s)) (place_of numbers (get_or rows row []) s)
            → sums (cells_in numbers (set rows row new) s) ≡ cond t (add_in (sums (cells_in numbers rows s)) c) (sums (cells_in numbers rows s))
        go true e =
            let cs = column (get_or numbers s 512) rows in
            ap (λ l. sums (all_shown l)) (column-set (get_or numbers s 512) rows row new ∙ ap (set cs row) (e ∙ sym (ap (plus c) (old-at s))))
            ∙ shown-set [] cs row c.group c (low s) some refl
            (subst (IsPlace c.group) (sym (old-at s)) (place-in c.group (get_or rows row []) (get_or numbers s 512) (rows-at keys rows row c.group h.each at)))
        go false e = ap (λ l. sums (all_shown l)) (column-same (get_or numbers s 512) rows row new e)

    -- the whole stays sound
    pub added-large : IsLarge keys after numbers width (count + fresh)
    added-large = subst (λ l. IsLarge keys l numbers width (count + fresh)) (sym is) (record {
      apart = h.apart;
      room = let n = length-set rows row (get_or after row []) in let r = h.room in omega (arith, n, r);
      each = rows-set keys rows row c.group new h.each at a.held;
      narrow = all-set (λ (r : List Cell). length r ≤ width) rows row new h.narrow
          (let l = a.long in let n = all-at (λ (r : List Cell). length r ≤ width) rows row [] (row-low row c.group at) h.narrow in omega (arith, l, n));
      counted =
          let f = total-four (cells_in numbers (set rows row new)) (λ s. shown (place_of numbers (get_or rows row []) s)) (cells_in numbers rows) (λ s. shown (place_of numbers new s)) more in
          let n = h.counted in
          let m = a.counted in
          omega (arith, f, n, m);
    })
      where
        more : (s : ℕ) → length (cells_in numbers (set rows row new) s) + length (shown (place_of numbers (get_or rows row []) s)) ≡ length (cells_in numbers rows s) + length (shown (place_of numbers new s))
        more s =
            let x = length-set-shown (column (get_or numbers s 512) rows) row (place_of numbers new s) (low s) in
            let y = ap (λ (d : Cell). length (shown d)) (old-at s) in
            let z = ap (λ (l : List Cell). length (all_shown l)) (column-set (get_or numbers s 512) rows row new) in
            omega (arith, x, y, z)

  -- ---- rows made, and made longer

  pub padded-large : (after : List (List Cell)) (k : ℕ) → after ≡ rows ++ replicate k [] → IsLarge keys after numbers width count
  padded-large after k is = subst (λ l. IsLarge keys l numbers width count) (sym is) (record {
    apart = h.apart;
    room = let r = h.room in let n = length-append rows (replicate k []) in omega (arith, r, n);
    each = rows-pad keys rows k h.each;
    narrow = all-append (λ (r : List Cell). length r ≤ width) rows (replicate k []) h.narrow (all-replicate (λ (r : List Cell). length r ≤ width) k [] (omega arith));
    counted = h.counted ∙ sym (total-same (cells_in numbers rows) (cells_in numbers (rows ++ replicate k [])) (λ s. ap length (column-pad (get_or numbers s 512) rows k)));
  })

  pub padded-same : (after : List (List Cell)) (k s : ℕ) → after ≡ rows ++ replicate k [] → cells_in numbers after s ≡ cells_in numbers rows s
  padded-same after k s is = ap (λ l. cells_in numbers l s) is ∙ column-pad (get_or numbers s 512) rows k

  -- with a group more
  pub more-groups : (gs : List ℤ) → AreApart gs → AreRows gs rows → length gs ≤ length rows → IsLarge gs rows numbers width count
  more-groups gs apart each room = record { apart = apart; room = room; each = each; narrow = h.narrow; counted = h.counted }

  module _ (row : ℕ) (g : ℤ) (after : List (List Cell)) (k : ℕ) (at : slice_get keys row ≡ Some g) (is : after ≡ set rows row (get_or after row [])) (more : get_or after row [] ≡ get_or rows row [] ++ replicate k blank) where
    pub wide-same : (s : ℕ) → cells_in numbers after s ≡ cells_in numbers rows s
    wide-same s =
        ap (λ l. cells_in numbers l s) is
        ∙ ap all_shown (column-same (get_or numbers s 512) rows row (get_or after row [])
        (ap (λ (r : List Cell). get_or r (get_or numbers s 512) blank) more ∙ pad-at (get_or rows row []) k (get_or numbers s 512)))

    pub wide-large : (length (get_or rows row []) ≤ width → length (get_or after row []) ≤ width) → IsLarge keys after numbers width count
    wide-large most = record {
      apart = h.apart;
      room = let e = ap (λ (l : List (List Cell)). length l) is in let n = length-set rows row (get_or after row []) in let r = h.room in omega (arith, e, n, r);
      each = subst (AreRows keys) (sym is)
          (rows-set keys rows row g (get_or after row []) h.each at (subst (AllByRecursion (IsPlace g)) (sym more) (pad-is g (get_or rows row []) k (rows-at keys rows row g h.each at))));
      narrow = subst (AllByRecursion (λ (r : List Cell). length r ≤ width)) (sym is)
          (all-set (λ (r : List Cell). length r ≤ width) rows row (get_or after row []) h.narrow (most (all-at (λ (r : List Cell). length r ≤ width) rows row [] (row-low row g at) h.narrow)));
      counted = h.counted ∙ sym (total-same (cells_in numbers rows) (cells_in numbers after) (λ s. ap length (wide-same s)));
    }

  -- ---- numbers given

  pub given-same : (after : List ℕ) (wider s : ℕ) → AreMore (record { numbers = numbers; width = width }) (record { numbers = after; width = wider }) → cells_in after rows s ≡ cells_in numbers rows s
  given-same after wider s m = elim (m.fresh s) [
    | inl e ↦ ap (λ n. all_shown (column n rows)) e
    | inr p ↦ column-past (get_or after s 512) width rows h.narrow p.1 ∙ sym (large-none s p.0)
  ]

  pub given-large : (after : List ℕ) (wider : ℕ) → AreMore (record { numbers = numbers; width = width }) (record { numbers = after; width = wider }) → IsLarge keys rows after wider count
  given-large after wider m = record {
    apart = h.apart;
    room = h.room;
    each = h.each;
    narrow = narrow-wider width wider rows m.wider h.narrow;
    counted = h.counted ∙ sym (total-same (cells_in numbers rows) (cells_in after rows) (λ s. ap length (given-same after wider s m)));
  }

  -- ---- a slot dropped

  pub large-part : (slot : ℕ) → slot < 512 → length (cells_in numbers rows slot) ≤ count
  large-part slot low = let a = total-part slot (cells_in numbers rows) low in let b = h.counted in omega (arith, a, b)

  pub blanked-cells : (slot s : ℕ) → AreGiven (record { numbers = numbers; width = width }) → cells_in numbers (without (get_or numbers slot 512) rows) s ≡ cond (s == slot) [] (cells_in numbers rows s)
  blanked-cells slot s given = elim (cases_eq s slot) [
    | inl at ↦
        ap (λ k. cells_in numbers (without (get_or numbers slot 512) rows) k) at ∙ without-same (get_or numbers slot 512) rows
        ∙ sym (ap (λ t. cond t [] (cells_in numbers rows s)) (eq-eqb s slot at))
    | inr n ↦ other n ∙ sym (ap (λ t. cond t [] (cells_in numbers rows s)) (ne_eqb s slot n))
  ]
    where
      other : (s ≡ slot → ⊥) → cells_in numbers (without (get_or numbers slot 512) rows) s ≡ cells_in numbers rows s
      other n = elim (cases_eq (get_or numbers s 512) (get_or numbers slot 512)) [
        | inl e ↦ elim (cases_lt (get_or numbers s 512) width) [
          | inl low ↦ absurd (n (given s slot low e))
          | inr high ↦
              ap (λ m. all_shown (column m (without (get_or numbers slot 512) rows))) e ∙ without-same (get_or numbers slot 512) rows
              ∙ sym (large-none s (omega (arith, high)))
        ]
        | inr m ↦ ap all_shown (without-other (get_or numbers slot 512) (get_or numbers s 512) rows m)
      ]

  pub blanked-large : (slot gone : ℕ) (after : List (List Cell)) → slot < 512 → AreGiven (record { numbers = numbers; width = width }) → gone ≡ length (cells_in numbers rows slot) → after ≡ without (get_or numbers slot 512) rows
      → IsLarge keys after numbers width (count - gone)
  blanked-large slot gone after low given some is = subst (λ l. IsLarge keys l numbers width (count - gone)) (sym is) (record {
    apart = h.apart;
    room = let n = length-without (get_or numbers slot 512) rows in let r = h.room in omega (arith, n, r);
    each = rows-without keys rows (get_or numbers slot 512) h.each;
    narrow = narrow-without width (get_or numbers slot 512) rows h.narrow;
    counted = let more = total-step slot gone (cells_in numbers left) (cells_in numbers rows) low long in let n = h.counted in omega (arith, more, n);
  })
    where
      left : List (List Cell)
      left = without (get_or numbers slot 512) rows

      long : (s : ℕ) → length (cells_in numbers rows s) ≡ length (cells_in numbers left s) + cond (s == slot) gone 0
      long s = go (s == slot) refl (blanked-cells slot s given)
        where
          go : (t : Bool) → (s == slot) ≡ t → cells_in numbers left s ≡ cond t [] (cells_in numbers rows s) → length (cells_in numbers rows s) ≡ length (cells_in numbers left s) + cond t gone 0
          go true e b = let x = ap length b in let y = ap (λ k. length (cells_in numbers rows k)) (eqb-true s slot e) in omega (arith, x, y, some)
          go false e b = let x = ap length b in omega (arith, x)

-- ---- no cells

pub nothing-in : (numbers : List ℕ) (rows : List (List Cell)) (k s : ℕ) → rows ≡ replicate k [] → cells_in numbers rows s ≡ []
nothing-in numbers rows k s is = ap (λ l. cells_in numbers l s) is ∙ column-none (get_or numbers s 512) k

pub large-emptied : (keys : List ℤ) (rows : List (List Cell)) (numbers : List ℕ) (width k : ℕ) → keys ≡ [] → rows ≡ replicate k [] → IsLarge keys rows numbers width 0
large-emptied keys rows numbers width k none is = subst (λ keys. IsLarge keys rows numbers width 0) (sym none) (record {
  apart = tt;
  room = omega arith;
  each = subst (AreRows []) (sym is) (rows-nothing [] k);
  narrow = subst (AllByRecursion (λ (r : List Cell). length r ≤ width)) (sym is) (all-replicate (λ (r : List Cell). length r ≤ width) k [] (omega arith));
  counted = sym (total-empty (cells_in numbers rows) (λ s. nothing-in numbers rows k s is));
})

pub all-nothing : (rows : List (List Cell)) → ((k : ℕ) → get_or rows k [] ≡ []) → rows ≡ replicate (length rows) []
all-nothing [] h = refl
all-nothing (row ∷ rows) h = ap₂ (λ r l. r ∷ l) (h 0) (all-nothing rows (λ k. h (suc k)))

-- a row that there is has a group
pub at-low : (keys : List ℤ) (row : ℕ) (d : ℤ) → row < length keys → slice_get keys row ≡ Some (get_or keys row d)
at-low [] row d low = absurd (omega (arith, low))
at-low (k ∷ keys) zero d low = refl
at-low (k ∷ keys) (suc row) d low = at-low keys row d (omega (arith, low))
