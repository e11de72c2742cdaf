-- What a record adds to a table, class by class.
use Rattle.std.proofs.Common.{◌≡◌, inl, inr, ℕ, zero, suc, ℤ, ◌+◌, ◌*◌, ◌<◌, ◌≤◌, ◌&&◌, ◌||◌, eqb, ltb, Bool, true, false, cond, true≢false, Option, Some, None, List, [], ◌∷◌, ◌++◌, map, length, get_or, refl, sym, ap, ◌∙◌, arith}
use Rattle.std.specs.List.{fold, range_with_len}
use Rattle.std.specs.Ordering.{int_eq}
use Rattle.std.proofs.lemmas.Bool.{cases_lt, eqb-true, eq-eqb, lt-ltb, le-ltb}
use Rattle.std.proofs.lemmas.List.{get_or-map}
use Rattle.std.proofs.lemmas.List.FromFn.{get_or-range_with_len}
use Rattle.as_base.specs.declared.fragment.Cell.{Cell}
use Rattle.as_base.specs.declared.item.Given.{Given}
use Rattle.as_base.specs.declared.query.Col.{Col}
use Rattle.as_base.specs.declared.query.Col.TheVariants.{V1, V2, V3, V4}
use Rattle.as_base.specs.declared.query.Group.{Group}
use Rattle.as_base.specs.declared.query.Group.TheVariants as group
use Rattle.views.specs.Groups.{group_of}
use Rattle.queryset_lanes.specs.Slots.{both, has_slot}
use Rattle.group_table.specs.Cells.{add_in, count_at}
use Rattle.group_table.specs.Steps.{added_each, HaveSome}
use Rattle.group_table.specs.declared.table.Table.{Table}
use Rattle.group_table.specs.Tables.{cells_at}
use Rattle.group_table.proofs.CellLaws.{cases_group, past, here, one}
use Rattle.group_table.proofs.SumLaws.{count-folded}
use Rattle.shared_agg.specs.declared.duties.Duty.{Duty}
use Rattle.shared_agg.specs.Duties.{duty_at, dues, way_of, number_of, is_of, kinds, kind_at, class_at}
use Rattle.shared_agg.specs.Fill.{has, due, class_cell, IsFed, IsPartlyFed}

-- ---- cells

-- no cell goes where one is added
length-kept : (l : List Cell) (c : Cell) → length l ≤ length (add_in l c)
length-kept [] c = omega arith
length-kept (d ∷ ds) c = elim (cases_group d.group c.group) [
  | inl e ↦ let a = ap length (past d ds c e) in let k = length-kept ds c in omega (arith, a, k)
  | inr (inl e) ↦ let a = ap length (here d ds c e) in omega (arith, a)
  | inr (inr e) ↦ let a = ap length (one d ds c e) in omega (arith, a)
]

length-folded : (cs l : List Cell) → length l ≤ length (fold add_in l cs)
length-folded [] l = omega arith
length-folded (c ∷ cs) l = let a = length-kept l c in let b = length-folded cs (add_in l c) in omega (arith, a, b)

pub count-append : (g : ℤ) (cs ds : List Cell) → count_at (cs ++ ds) g ≡ count_at cs g + count_at ds g
count-append g [] ds = omega arith
count-append g (c ∷ cs) ds = let a = count-append g cs ds in omega (arith, a)

module _ (old new : Table) (adds : ℕ → List Cell) (p : IsPartlyFed old new adds) where
  -- no cell is gone
  pub partly-longer : (s : ℕ) → length (cells_at old s) ≤ length (cells_at new s)
  partly-longer s = let a = ap length (p.fed s) in let b = length-folded (cond (p.which s) (adds s) []) (cells_at old s) in omega (arith, a, b)

  -- and none counts more records than all that were to be added
  pub partly-count : (s : ℕ) (g : ℤ) → count_at (cells_at new s) g ≤ count_at (cells_at old s) g + count_at (adds s) g
  partly-count s g =
      let a = ap (λ l. count_at l g) (p.fed s) in
      let b = count-folded g (cond (p.which s) (adds s) []) (cells_at old s) in
      let c = part (p.which s) in
      omega (arith, a, b, c)
    where
      part : (b : Bool) → count_at (cond b (adds s) []) g ≤ count_at (adds s) g
      part true = omega arith
      part false = omega arith

-- a record adds one cell at most
pub due-most : (g : Given) (chosen : List Bool) (duties : List (Option Duty)) (s : ℕ) (z : ℤ) → count_at (due g chosen duties s) z ≤ 1
due-most g chosen duties s z = go (has chosen s) (duty_at duties s)
  where
    bit : (b : Bool) → cond {A = ℕ} b 1 0 ≤ 1
    bit true = omega arith
    bit false = omega arith

    go : (b : Bool) (o : Option Duty) → count_at (cond b (dues g o) []) z ≤ 1
    go false o = omega arith
    go true None = omega arith
    go true (Some d) = let a = bit (int_eq (group_of d.group g) z) in omega (arith, a)

-- ---- the place of a kind among all

place_of : Duty → ℕ
place_of d = 5 * way_of d.group + number_of d.column

kind-placed : (d : Duty) → kind_at (place_of d) ≡ d
unfolding place_of
kind-placed d = go d.group d.column
  where
    go : (by : Group) (column : Option Col) → kind_at (5 * way_of by + number_of column) ≡ record { group = by; column = column }
    go group.Key None = refl
    go group.Key (Some V1) = refl
    go group.Key (Some V2) = refl
    go group.Key (Some V3) = refl
    go group.Key (Some V4) = refl
    go (group.Col V1) None = refl
    go (group.Col V1) (Some V1) = refl
    go (group.Col V1) (Some V2) = refl
    go (group.Col V1) (Some V3) = refl
    go (group.Col V1) (Some V4) = refl
    go (group.Col V2) None = refl
    go (group.Col V2) (Some V1) = refl
    go (group.Col V2) (Some V2) = refl
    go (group.Col V2) (Some V3) = refl
    go (group.Col V2) (Some V4) = refl
    go (group.Col V3) None = refl
    go (group.Col V3) (Some V1) = refl
    go (group.Col V3) (Some V2) = refl
    go (group.Col V3) (Some V3) = refl
    go (group.Col V3) (Some V4) = refl
    go (group.Col V4) None = refl
    go (group.Col V4) (Some V1) = refl
    go (group.Col V4) (Some V2) = refl
    go (group.Col V4) (Some V3) = refl
    go (group.Col V4) (Some V4) = refl
    go group.All None = refl
    go group.All (Some V1) = refl
    go group.All (Some V2) = refl
    go group.All (Some V3) = refl
    go group.All (Some V4) = refl

places : map place_of kinds ≡ range_with_len 0 30
unfolding place_of
places = refl

place-kind : (i : ℕ) → i < 30 → place_of (kind_at i) ≡ i
place-kind i lt =
    sym (get_or-map place_of kinds i (record { group = group.Key; column = Some V1 }) 0 (omega (arith, lt)))
    ∙ ap (λ l. get_or l i 0) places ∙ get_or-range_with_len 0 30 i 0 lt ∙ (omega arith)

place-below : (d : Duty) → place_of d < 30
unfolding place_of
place-below d = let a = ways d.group in let b = numbers d.column in omega (arith, a, b)
  where
    ways : (by : Group) → way_of by ≤ 5
    ways group.Key = omega arith
    ways (group.Col V1) = omega arith
    ways (group.Col V2) = omega arith
    ways (group.Col V3) = omega arith
    ways (group.Col V4) = omega arith
    ways group.All = omega arith

    numbers : (column : Option Col) → number_of column ≤ 4
    numbers None = omega arith
    numbers (Some V1) = omega arith
    numbers (Some V2) = omega arith
    numbers (Some V3) = omega arith
    numbers (Some V4) = omega arith

-- two kinds in one place are one
same-place : (a b : Duty) → place_of a ≡ place_of b → a ≡ b
same-place a b e = sym (kind-placed a) ∙ ap kind_at e ∙ kind-placed b

-- the duties of a kind are those in its place
of-place : (a b : Duty) → is_of b.group b.column (Some a) ≡ true → place_of a ≡ place_of b
unfolding place_of
of-place a b h = go (eqb (way_of a.group) (way_of b.group)) (eqb (number_of a.column) (number_of b.column)) refl refl h
  where
    go : (x y : Bool) → eqb (way_of a.group) (way_of b.group) ≡ x → eqb (number_of a.column) (number_of b.column) ≡ y → (x && y) ≡ true
        → 5 * way_of a.group + number_of a.column ≡ 5 * way_of b.group + number_of b.column
    go true true e f h = let p = eqb-true _ _ e in let q = eqb-true _ _ f in omega (arith, p, q)
    go true false e f h = absurd (true≢false (sym h))
    go false y e f h = absurd (true≢false (sym h))

of-self : (a b : Duty) → a ≡ b → is_of b.group b.column (Some a) ≡ true
of-self a b e =
    ap (λ (d : Duty). is_of b.group b.column (Some d)) e
    ∙ ap (λ x. x && eqb (number_of b.column) (number_of b.column)) (eq-eqb (way_of b.group) (way_of b.group) refl)
    ∙ eq-eqb (number_of b.column) (number_of b.column) refl

-- ---- class after class

both-at : (xs ys : List Bool) (s : ℕ) → has (both xs ys) s ≡ (has xs s && has ys s)
both-at [] ys s = refl
both-at (x ∷ xs) [] s = sym (neither (has (x ∷ xs) s))
  where
    neither : (b : Bool) → (b && false) ≡ false
    neither true = refl
    neither false = refl
both-at (x ∷ xs) (y ∷ ys) zero = refl
both-at (x ∷ xs) (y ∷ ys) (suc s) = both-at xs ys s

map-at : (f : Option Duty → Bool) (duties : List (Option Duty)) (s : ℕ) → f None ≡ false → has (map f duties) s ≡ f (duty_at duties s)
map-at f [] s e = sym e
map-at f (d ∷ duties) zero e = refl
map-at f (d ∷ duties) (suc s) e = map-at f duties s e

-- the place of the duty's kind is before this one
is_before : ℕ → Option Duty → Bool
is_before i None = false
is_before i (Some d) = ltb (place_of d) i

-- what a record adds to the cells of a slot, if its class is one of the first
pub due_first : Given → List Bool → List (Option Duty) → ℕ → ℕ → List Cell
due_first g chosen duties i s = cond (is_before i (duty_at duties s)) (due g chosen duties s) []

module _ (g : Given) (chosen : List Bool) (duties : List (Option Duty)) where
  nothing : (b : Bool) (l : List Cell) → l ≡ [] → cond b l [] ≡ []
  nothing true l e = e
  nothing false l e = refl

  due-out : (s : ℕ) → has chosen s ≡ false → due g chosen duties s ≡ []
  due-out s e = ap (λ b. cond b (dues g (duty_at duties s)) []) e

  due-none : (s : ℕ) → duty_at duties s ≡ None → due g chosen duties s ≡ []
  due-none s e = ap (λ o. cond (has chosen s) (dues g o) []) e ∙ nothing (has chosen s) [] refl

  pub first-none : (old : Table) → IsFed old old (due_first g chosen duties 0)
  unfolding due_first is_before
  first-none old s = go (duty_at duties s)
    where
      go : (o : Option Duty) → cells_at old s ≡ fold add_in (cells_at old s) (cond (is_before 0 o) (due g chosen duties s) [])
      go None = refl
      go (Some d) = sym (ap (λ b. fold add_in (cells_at old s) (cond b (due g chosen duties s) [])) (le-ltb (place_of d) 0 (omega arith)))

  pub first-all : (i : ℕ) → 30 ≤ i → (old now : Table) → IsFed old now (due_first g chosen duties i) → IsFed old now (due g chosen duties)
  unfolding due_first is_before
  first-all i end old now fed s = fed s ∙ ap (fold add_in (cells_at old s)) (go (duty_at duties s) refl)
    where
      go : (o : Option Duty) → duty_at duties s ≡ o → cond (is_before i o) (due g chosen duties s) [] ≡ due g chosen duties s
      go None e = sym (due-none s e)
      go (Some d) e = let lt = place-below d in ap (λ b. cond b (due g chosen duties s) []) (lt-ltb (place_of d) i (omega (arith, lt, end)))

  module _ (i : ℕ) (low : i < 30) (old now : Table) (fed : IsFed old now (due_first g chosen duties i)) where
    -- the slots of the set that are of the class
    mine-at : (s : ℕ) → has (both chosen (class_at duties i).slots) s ≡ (has chosen s && is_of (kind_at i).group (kind_at i).column (duty_at duties s))
    mine-at s =
        both-at chosen (class_at duties i).slots s
        ∙ ap (λ b. has chosen s && b) (map-at (is_of (kind_at i).group (kind_at i).column) duties s refl)

    -- such a slot has the kind's duty, and waits
    record IsMine (s : ℕ) : Type 0 where
      chosen_is : has chosen s ≡ true
      duty_is : duty_at duties s ≡ Some (kind_at i)
      waits : is_before i (duty_at duties s) ≡ false

    mine-is : (s : ℕ) → has (both chosen (class_at duties i).slots) s ≡ true → IsMine s
    unfolding is_before
    mine-is s h = go (has chosen s) (duty_at duties s) refl refl (sym (mine-at s) ∙ h)
      where
        go : (b : Bool) (o : Option Duty) → has chosen s ≡ b → duty_at duties s ≡ o → (b && is_of (kind_at i).group (kind_at i).column o) ≡ true → IsMine s
        go false o e f k = absurd (true≢false (sym k))
        go true None e f k = absurd (true≢false (sym k))
        go true (Some d) e f k =
            let at = of-place d (kind_at i) k in
            let own = place-kind i low in
            record {
              chosen_is = e;
              duty_is = f ∙ ap Some (same-place d (kind_at i) at);
              waits = ap (is_before i) f ∙ le-ltb (place_of d) i (omega (arith, at, own));
            }

    -- so its cells are those before, and there is room
    pub mine-waits : (s : ℕ) → has (both chosen (class_at duties i).slots) s ≡ true → cells_at now s ≡ cells_at old s
    unfolding due_first
    mine-waits s h = fed s ∙ ap (λ b. fold add_in (cells_at old s) (cond b (due g chosen duties s) [])) (mine-is s h).waits

    -- what it is due is the cell of the class
    mine-due : (s : ℕ) → has (both chosen (class_at duties i).slots) s ≡ true → due g chosen duties s ≡ class_cell (class_at duties i) g ∷ []
    mine-due s h =
        let m = mine-is s h in
        ap (λ b. cond b (dues g (duty_at duties s)) []) m.chosen_is ∙ ap (dues g) m.duty_is

    -- some slots of the class get it
    some-fed : (new : Table) (which : ℕ → Bool) → ((s : ℕ) → which s ≡ true → has (both chosen (class_at duties i).slots) s ≡ true)
        → ((s : ℕ) → cells_at new s ≡ cond (which s) (add_in (cells_at now s) (class_cell (class_at duties i) g)) (cells_at now s))
        → IsFed old new (λ s. cond (is_before i (duty_at duties s) || which s) (due g chosen duties s) [])
    unfolding due_first
    some-fed new which among got s = got s ∙ go (which s) refl
      where
        go : (b : Bool) → which s ≡ b → cond b (add_in (cells_at now s) (class_cell (class_at duties i) g)) (cells_at now s)
            ≡ fold add_in (cells_at old s) (cond (is_before i (duty_at duties s) || b) (due g chosen duties s) [])
        go false e = fed s ∙ ap (λ b. fold add_in (cells_at old s) (cond b (due g chosen duties s) [])) (sym (neither (is_before i (duty_at duties s))))
          where
            neither : (b : Bool) → (b || false) ≡ b
            neither true = refl
            neither false = refl
        go true e =
            let h = among s e in
            ap (λ l. add_in l (class_cell (class_at duties i) g)) (mine-waits s h)
            ∙ sym (ap (λ b. fold add_in (cells_at old s) (cond (b || true) (due g chosen duties s) [])) (mine-is s h).waits
            ∙ ap (fold add_in (cells_at old s)) (mine-due s h))

    -- all of them have got it
    pub class-fed : (new : Table)
        → ((s : ℕ) → cells_at new s ≡ added_each (cells_at now) (both chosen (class_at duties i).slots) (class_cell (class_at duties i) g) s)
        → IsFed old new (due_first g chosen duties (i + 1))
    unfolding due_first is_before
    class-fed new got s =
        some-fed new (has (both chosen (class_at duties i).slots)) (λ t h. h) got s
        ∙ ap (fold add_in (cells_at old s)) (ap (λ b. cond (is_before i (duty_at duties s) || b) (due g chosen duties s) []) (mine-at s) ∙ go (has chosen s) (duty_at duties s) refl refl)
      where
        go : (b : Bool) (o : Option Duty) → has chosen s ≡ b → duty_at duties s ≡ o
            → cond (is_before i o || (b && is_of (kind_at i).group (kind_at i).column o)) (due g chosen duties s) [] ≡ cond (is_before (i + 1) o) (due g chosen duties s) []
        go false o e f = nothing (is_before i o || false) (due g chosen duties s) (due-out s e) ∙ sym (nothing (is_before (i + 1) o) (due g chosen duties s) (due-out s e))
        go true None e f = refl
        go true (Some d) e f = ap (λ b. cond b (due g chosen duties s) []) (passed (is_of (kind_at i).group (kind_at i).column (Some d)) refl)
          where
            passed : (b : Bool) → is_of (kind_at i).group (kind_at i).column (Some d) ≡ b → (ltb (place_of d) i || b) ≡ ltb (place_of d) (i + 1)
            passed true h =
                let at = of-place d (kind_at i) h in
                let own = place-kind i low in
                ap (λ b. b || true) (le-ltb (place_of d) i (omega (arith, at, own))) ∙ sym (lt-ltb (place_of d) (i + 1) (omega (arith, at, own)))
            passed false h = elim (cases_lt (place_of d) i) [
              | inl lt ↦ ap (λ b. b || false) (lt-ltb (place_of d) i lt) ∙ sym (lt-ltb (place_of d) (i + 1) (omega (arith, lt)))
              | inr ge ↦
                  let other : place_of d ≡ i → ⊥ = λ at. true≢false (sym (of-self d (kind_at i) (same-place d (kind_at i) (at ∙ sym (place-kind i low)))) ∙ h) in
                  elim (cases_lt i (place_of d)) [
                    | inl lt ↦ ap (λ b. b || false) (le-ltb (place_of d) i ge) ∙ sym (le-ltb (place_of d) (i + 1) (omega (arith, lt)))
                    | inr le ↦ absurd (other (omega (arith, ge, le)))
                  ]
            ]

    -- memory was missing within the class
    pub class-partly : (new : Table)
        → HaveSome (cells_at now) (cells_at new) (both chosen (class_at duties i).slots) (class_cell (class_at duties i) g) → IsPartlyFed old new (due g chosen duties)
    class-partly new some = record {
      which = λ s. is_before i (duty_at duties s) || has some.which s;
      fed = some-fed new (has some.which) some.among some.cells;
    }

pub fed-partly : (old new : Table) (adds : ℕ → List Cell) → IsFed old new adds → IsPartlyFed old new adds
fed-partly old new adds fed = record { which = λ s. true; fed = fed }

-- a class without slots, or of which none is in the set, adds nothing
pub none-added : (cells : ℕ → List Cell) (slots : List Bool) (c : Cell) → has_slot slots ≡ false → (s : ℕ) → cells s ≡ added_each cells slots c s
none-added cells slots c none s = sym (ap (λ b. cond b (add_in (cells s) c) (cells s)) (off slots none s))
  where
    off : (xs : List Bool) → has_slot xs ≡ false → (k : ℕ) → has xs k ≡ false
    off [] e k = refl
    off (true ∷ xs) e k = absurd (true≢false e)
    off (false ∷ xs) e zero = refl
    off (false ∷ xs) e (suc k) = off xs e k

pub none-of-both : (xs ys : List Bool) → has_slot ys ≡ false → has_slot (both xs ys) ≡ false
none-of-both [] ys e = refl
none-of-both (x ∷ xs) [] e = refl
none-of-both (x ∷ xs) (true ∷ ys) e = absurd (true≢false e)
none-of-both (true ∷ xs) (false ∷ ys) e = none-of-both xs ys e
none-of-both (false ∷ xs) (false ∷ ys) e = none-of-both xs ys e
