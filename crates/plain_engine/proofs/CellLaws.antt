-- Cells of groups: how a record goes into them, and that they are what the records add up to.
use Rattle.std.proofs.Common.{◌≡◌, ◌⊎◌, inl, inr, ℕ, ◌+◌, ◌-◌, ◌≤◌, ◌<◌, ℤ, ◌+ℤ◌, ◌≤ℤ◌, ◌<ℤ◌, int_lt, int_le, Bool, true, false, cond, true≢false, zero, suc, List, [], ◌∷◌, map, length, get_or, set, drop, drop-cons, FitsSigned, to_z, of_z, w64, refl, sym, ap, ap₂, subst, ◌∙◌, arith}
use Rattle.std.specs.List.{insert, AllByRecursion}
use Rattle.std.specs.List.Sorted.{IsPartitionedBy}
use Rattle.std.specs.Ordering.{int_eq}
use Rattle.std.proofs.lemmas.Bool.{false_from_ne_true}
use Rattle.std.proofs.lemmas.Bool.Decides.{Decides-int_eq}
use Rattle.std.proofs.lemmas.Int.{ints, to_z-of_z}
use Rattle.as_base.specs.declared.fragment.Cell.{Cell}
use Rattle.as_base.specs.declared.item.Given.{Given}
use Rattle.as_base.specs.declared.query.Group.{Group}
use Rattle.as_base.specs.declared.query.Kind.{Kind}
use Rattle.as_base.specs.declared.query.Kind.TheVariants.{Select, Sum, Count, Join}
use Rattle.as_base.specs.declared.query.Col.{Col}
use Rattle.as_base.specs.declared.query.Plan.{Plan}
use Rattle.as_base.specs.declared.row.Row.TheVariants.{Agg}
use Rattle.as_base.specs.Windows.{start_of, end_of}
use Rattle.views.specs.Groups.{group_of, group_told, put_group, groups, of_group, sum_of, value_of}
use Rattle.views.specs.Passed.{within}
use Rattle.views.specs.Rows.{group_row, group_rows, rows_as, rows_with}
use Rattle.views.proofs.ListLaws.{All-by}
use Rattle.views.proofs.GroupLaws.{RisesSigned, RisesSigned-groups}
use Rattle.plain_engine.specs.Cells.{summand, total, cell_of, cells_of, with_one, cell_of_one, put_cell, AreRising, IsWithin, AreWithin, IsPlace}
use Rattle.plain_engine.specs.Walk.{value_told, row_of, text_of_rows}

-- ---- tests of signed numbers

eq-from : (a b : ℤ) → int_eq a b ≡ true → a ≡ b
eq-from a b h = (Decides-int_eq a b).0 h

eq-to : (a b : ℤ) → a ≡ b → int_eq a b ≡ true
eq-to a b h = (Decides-int_eq a b).1 h

above-not_eq : (a b : ℤ) → a <ℤ b → int_eq a b ≡ false
above-not_eq a b h = false_from_ne_true (int_eq a b) (λ e. let same = eq-from a b e in absurd (omega (arith, ints, h, same)))

below-not_eq : (a b : ℤ) → b <ℤ a → int_eq a b ≡ false
below-not_eq a b h = false_from_ne_true (int_eq a b) (λ e. let same = eq-from a b e in absurd (omega (arith, ints, h, same)))

lt-from : (a b : ℤ) → int_lt a b ≡ true → a <ℤ b
lt-from a b h = grind (arith, ints)

le-from-not_lt : (a b : ℤ) → int_lt a b ≡ false → b ≤ℤ a
le-from-not_lt a b h = grind (arith, ints)

not_le-from-lt : (a b : ℤ) → a <ℤ b → int_le b a ≡ false
not_le-from-lt a b h = grind (arith, ints)

le-to : (a b : ℤ) → a ≤ℤ b → int_le a b ≡ true
le-to a b h = grind (arith, ints)

le-from : (a b : ℤ) → int_le a b ≡ true → a ≤ℤ b
le-from a b h = grind (arith, ints)

lt-below : (a b z : ℤ) → a <ℤ b → int_lt b z ≡ true → int_lt a z ≡ true
lt-below a b z h k = grind (arith, ints)

le-apart : (a b : ℤ) → a ≤ℤ b → int_eq a b ≡ false → a <ℤ b
le-apart a b h k = by_cases (int_lt a b) refl
  where
    by_cases : (t : Bool) → int_lt a b ≡ t → a <ℤ b
    by_cases true e = lt-from a b e
    by_cases false e = let back = le-from-not_lt a b e in let same : a ≡ b = omega (arith, ints, h, back) in absurd (true≢false (sym (eq-to a b same) ∙ k))

-- numbers with the same bits are the same
pub same-by_bits : (a b : ℤ) → FitsSigned w64 a → FitsSigned w64 b → of_z w64 a ≡ of_z w64 b → a ≡ b
same-by_bits a b fa fb e = sym (to_z-of_z w64 a fa) ∙ ap (to_z w64) e ∙ to_z-of_z w64 b fb

pub apart-by_bits : (a b : ℤ) → ¬ (of_z w64 a ≡ of_z w64 b) → int_eq a b ≡ false
apart-by_bits a b apart = false_from_ne_true (int_eq a b) (λ e. absurd (apart (ap (of_z w64) (eq-from a b e))))

-- ---- the place of a group among cells

All-at : {X : Type 0} (P : X → Type 0) (xs : List X) → AllByRecursion P xs → (k : ℕ) (d : X) → k < length xs → P (get_or xs k d)
All-at P [] h k d lt = absurd (omega (arith, lt))
All-at P (x ∷ xs) h zero d lt = h.0
All-at P (x ∷ xs) h (suc k) d lt = All-at P xs h.1 k d (omega (arith, lt))

pub rising-partitioned : (z : ℤ) (cs : List Cell) → AreRising cs → IsPartitionedBy (λ (c : Cell). int_lt c.group z) cs
rising-partitioned z [] h i j d le lt is = absurd (omega (arith, lt))
rising-partitioned z (c ∷ cs) h zero zero d le lt is = is
rising-partitioned z (c ∷ cs) h zero (suc j) d le lt is =
    lt-below c.group (get_or cs j d).group z (All-at (λ (later : Cell). c.group <ℤ later.group) cs h.0 j d (omega (arith, lt))) is
rising-partitioned z (c ∷ cs) h (suc i) zero d le lt is = absurd (omega (arith, le))
rising-partitioned z (c ∷ cs) h (suc i) (suc j) d le lt is = rising-partitioned z cs h.1 i j d (omega (arith, le)) (omega (arith, lt)) is

-- past a cell below the group
put-past : (z value : ℤ) (c : Cell) (cs : List Cell) → int_lt c.group z ≡ true → put_cell z value (c ∷ cs) ≡ c ∷ put_cell z value cs
put-past z value c cs h =
    let below = lt-from c.group z h in
    ap (λ b. cond b (with_one value c ∷ cs) (cond (int_le z c.group) (cell_of_one z value ∷ c ∷ cs) (c ∷ put_cell z value cs))) (below-not_eq z c.group below)
    ∙ ap (λ b. cond b (cell_of_one z value ∷ c ∷ cs) (c ∷ put_cell z value cs)) (not_le-from-lt c.group z below)

rest-place : (z : ℤ) (c : Cell) (cs : List Cell) (i : ℕ) → IsPlace z (c ∷ cs) (suc i) → IsPlace z cs i
rest-place z c cs i h = (λ k d low high. h.0 (suc k) d (omega arith) (omega (arith, high)), λ k d low high. h.1 (suc k) d (omega (arith, low)) (omega (arith, high)))

-- the group has a cell
pub put-written : (z value : ℤ) (cs : List Cell) (i : ℕ) (d : Cell) → IsPlace z cs i → i < length cs → (get_or cs i d).group ≡ z → put_cell z value cs ≡ set cs i (with_one value (get_or cs i d))
put-written z value [] i d point lt same = absurd (omega (arith, lt))
put-written z value (c ∷ cs) zero d point lt same =
    ap (λ b. cond b (with_one value c ∷ cs) (cond (int_le z c.group) (cell_of_one z value ∷ c ∷ cs) (c ∷ put_cell z value cs))) (eq-to z c.group (sym same))
put-written z value (c ∷ cs) (suc i) d point lt same =
    put-past z value c cs (point.0 0 c (omega arith) (omega arith)) ∙ ap (λ l. c ∷ l) (put-written z value cs i d (rest-place z c cs i point) (omega (arith, lt)) same)

-- the group has no cell
pub put-inserted : (z value : ℤ) (cs : List Cell) (i : ℕ) (d : Cell) → IsPlace z cs i → i ≤ length cs → (i < length cs → int_eq (get_or cs i d).group z ≡ false) → put_cell z value cs ≡ insert cs i (cell_of_one z value)
put-inserted z value [] zero d point le apart = refl
put-inserted z value [] (suc i) d point le apart = absurd (omega (arith, le))
put-inserted z value (c ∷ cs) zero d point le apart =
    let from = le-from-not_lt c.group z (point.1 0 c (omega arith) (omega arith)) in
    let other : int_eq z c.group ≡ false = false_from_ne_true (int_eq z c.group) (λ e. true≢false (sym (eq-to c.group z (sym (eq-from z c.group e))) ∙ apart (omega arith))) in
    ap (λ b. cond b (with_one value c ∷ cs) (cond (int_le z c.group) (cell_of_one z value ∷ c ∷ cs) (c ∷ put_cell z value cs))) other
    ∙ ap (λ b. cond b (cell_of_one z value ∷ c ∷ cs) (c ∷ put_cell z value cs)) (le-to z c.group from)
put-inserted z value (c ∷ cs) (suc i) d point le apart =
    put-past z value c cs (point.0 0 c (omega arith) (omega arith))
    ∙ ap (λ l. c ∷ l) (put-inserted z value cs i d (rest-place z c cs i point) (omega (arith, le)) (λ lt. apart (omega (arith, lt))))

-- ---- the bounds of sums and counts

within-more : (n : ℕ) (c : Cell) → IsWithin n c → IsWithin (n + 1) c
within-more n c h = record {
  count = let a = h.count in omega (arith, a);
  above = let a = h.above in omega (arith, ints, a);
  below = let b = h.below in omega (arith, ints, b);
}

within-one : (n : ℕ) (z value : ℤ) → FitsSigned w64 value → IsWithin (n + 1) (cell_of_one z value)
within-one n z value fits = record { count = omega arith; above = omega (arith, ints); below = omega (arith, ints) }

within-with : (n : ℕ) (value : ℤ) (c : Cell) → FitsSigned w64 value → IsWithin n c → IsWithin (n + 1) (with_one value c)
within-with n value c fits h = record {
  count = let a = h.count in omega (arith, a);
  above = let a = h.above in omega (arith, ints, a);
  below = let b = h.below in omega (arith, ints, b);
}

pub within-put : (n : ℕ) (z value : ℤ) (cs : List Cell) → FitsSigned w64 value → AreWithin n cs → AreWithin (n + 1) (put_cell z value cs)
within-put n z value [] fits h = (within-one n z value fits, tt)
within-put n z value (c ∷ cs) fits h = by_cases (within-put n z value cs fits h.1) (int_eq z c.group) (int_le z c.group)
  where
    rest : AreWithin (n + 1) cs
    rest = All-by (IsWithin n) (IsWithin (n + 1)) (within-more n) cs h.1

    by_cases : AreWithin (n + 1) (put_cell z value cs) → (same before : Bool) → AreWithin (n + 1) (cond same (with_one value c ∷ cs) (cond before (cell_of_one z value ∷ c ∷ cs) (c ∷ put_cell z value cs)))
    by_cases put true before = (within-with n value c fits h.0, rest)
    by_cases put false true = (within-one n z value fits, (within-more n c h.0, rest))
    by_cases put false false = (within-more n c h.0, put)

-- ---- groups without records

-- the number is none of these
abbrev IsAbsent : ℤ → List ℤ → Type 0
IsAbsent z ys = AllByRecursion (λ y. int_eq z y ≡ false) ys

absent-put : (z x : ℤ) (ys : List ℤ) → IsAbsent z (put_group x ys) → (int_eq z x ≡ false) × IsAbsent z ys
absent-put z x [] h = (h.0, tt)
absent-put z x (y ∷ ys) h = by_cases (absent-put z x ys) (int_eq x y) refl (int_le x y) h
  where
    by_cases : (IsAbsent z (put_group x ys) → (int_eq z x ≡ false) × IsAbsent z ys) → (same : Bool) → int_eq x y ≡ same → (before : Bool)
        → IsAbsent z (cond same (y ∷ ys) (cond before (x ∷ y ∷ ys) (y ∷ put_group x ys))) → (int_eq z x ≡ false) × IsAbsent z (y ∷ ys)
    by_cases put true e before h = (subst (λ a. int_eq z a ≡ false) (sym (eq-from x y e)) h.0, h)
    by_cases put false e true h = (h.0, h.1)
    by_cases put false e false h = let rest = put h.1 in (rest.0, (h.0, rest.1))

-- a number that is no record's group has no records
absent-none : (by : Group) (z : ℤ) (gs : List Given) → IsAbsent z (groups by gs) → of_group by z gs ≡ []
absent-none by z [] h = refl
absent-none by z (g ∷ gs) h =
    let parts = absent-put z (group_of by g) (groups by gs) h in
    let other : int_eq (group_of by g) z ≡ false = false_from_ne_true (int_eq (group_of by g) z) (λ e. true≢false (sym (eq-to z (group_of by g) (sym (eq-from (group_of by g) z e))) ∙ parts.0)) in
    ap (λ b. cond b (g ∷ of_group by z gs) (of_group by z gs)) other ∙ absent-none by z gs parts.1

-- ---- cells are what the records add up to

pub rising-cells : (kind : Kind) (by : Group) (gs : List Given) (ys : List ℤ) → RisesSigned ys → AreRising (map (cell_of kind by gs) ys)
rising-cells kind by gs [] h = tt
rising-cells kind by gs (y ∷ ys) h = (later ys h.0, rising-cells kind by gs ys h.1)
  where
    later : (ys : List ℤ) → AllByRecursion (λ later. y <ℤ later) ys → AllByRecursion (λ (c : Cell). y <ℤ c.group) (map (cell_of kind by gs) ys)
    later [] h = tt
    later (x ∷ ys) h = (h.0, later ys h.1)

-- one more record of the group
cell-with : (kind : Kind) (by : Group) (g : Given) (gs : List Given) (y : ℤ) → group_of by g ≡ y → cell_of kind by (g ∷ gs) y ≡ with_one (summand kind g) (cell_of kind by gs y)
cell-with kind by g gs y same =
    ap (λ b. let l = cond b (g ∷ of_group by y gs) (of_group by y gs) in the_cell y (total kind l) (length l)) (eq-to (group_of by g) y same)
    ∙ ap (the_cell y (summand kind g +ℤ total kind (of_group by y gs))) (omega arith)
  where
    the_cell : ℤ → ℤ → ℕ → Cell
    the_cell y sum count = record { group = y; sum = sum; count = count }

-- one more record of another group
cell-without : (kind : Kind) (by : Group) (g : Given) (gs : List Given) (y : ℤ) → int_eq (group_of by g) y ≡ false → cell_of kind by (g ∷ gs) y ≡ cell_of kind by gs y
cell-without kind by g gs y other =
    ap (λ b. let l = cond b (g ∷ of_group by y gs) (of_group by y gs) in the_cell y (total kind l) (length l)) other
  where
    the_cell : ℤ → ℤ → ℕ → Cell
    the_cell y sum count = record { group = y; sum = sum; count = count }

cells-without : (kind : Kind) (by : Group) (g : Given) (gs : List Given) (ys : List ℤ) → IsAbsent (group_of by g) ys → map (cell_of kind by (g ∷ gs)) ys ≡ map (cell_of kind by gs) ys
cells-without kind by g gs [] h = refl
cells-without kind by g gs (y ∷ ys) h = ap₂ (λ c cs. c ∷ cs) (cell-without kind by g gs y h.0) (cells-without kind by g gs ys h.1)

-- the first record of its group
cell-first : (kind : Kind) (by : Group) (g : Given) (gs : List Given) → of_group by (group_of by g) gs ≡ [] → cell_of kind by (g ∷ gs) (group_of by g) ≡ cell_of_one (group_of by g) (summand kind g)
cell-first kind by g gs none =
    cell-with kind by g gs (group_of by g) refl
    ∙ ap (λ l. with_one (summand kind g) (the_cell (group_of by g) (total kind l) (length l))) none
    ∙ ap (λ s. the_cell (group_of by g) s 1) (omega (arith, ints))
  where
    the_cell : ℤ → ℤ → ℕ → Cell
    the_cell y sum count = record { group = y; sum = sum; count = count }

cells-put : (kind : Kind) (by : Group) (g : Given) (gs : List Given) (ys : List ℤ) → RisesSigned ys → (IsAbsent (group_of by g) ys → of_group by (group_of by g) gs ≡ [])
    → map (cell_of kind by (g ∷ gs)) (put_group (group_of by g) ys) ≡ put_cell (group_of by g) (summand kind g) (map (cell_of kind by gs) ys)
cells-put kind by g gs [] h none = ap (λ c. c ∷ []) (cell-first kind by g gs (none tt))
cells-put kind by g gs (y ∷ ys) h none = by_cases (λ other. cells-put kind by g gs ys h.1 (λ absent. none (other, absent))) (int_eq z y) refl (int_le z y) refl
  where
    z : ℤ
    z = group_of by g

    cells : List ℤ → List Cell
    cells l = map (cell_of kind by gs) l

    by_cases : (int_eq z y ≡ false → map (cell_of kind by (g ∷ gs)) (put_group z ys) ≡ put_cell z (summand kind g) (cells ys))
        → (same : Bool) → int_eq z y ≡ same → (before : Bool) → int_le z y ≡ before
        → map (cell_of kind by (g ∷ gs)) (cond same (y ∷ ys) (cond before (z ∷ y ∷ ys) (y ∷ put_group z ys)))
        ≡ cond same (with_one (summand kind g) (cell_of kind by gs y) ∷ cells ys)
        (cond before (cell_of_one z (summand kind g) ∷ cell_of kind by gs y ∷ cells ys) (cell_of kind by gs y ∷ put_cell z (summand kind g) (cells ys)))
    by_cases put true e before k =
        let is = eq-from z y e in
        ap₂ (λ c cs. c ∷ cs) (cell-with kind by g gs y is)
        (cells-without kind by g gs ys (All-by (λ later. y <ℤ later) (λ later. int_eq z later ≡ false) (λ later up. above-not_eq z later (subst (λ a. a <ℤ later) (sym is) up)) ys h.0))
    by_cases put false e true k =
        let low = le-apart z y (le-from z y k) e in
        let absent : IsAbsent z (y ∷ ys) = (e, All-by (λ later. y <ℤ later) (λ later. int_eq z later ≡ false) (λ later up. above-not_eq z later (omega (arith, ints, low, up))) ys h.0) in
        ap₂ (λ c cs. c ∷ cs) (cell-first kind by g gs (none absent)) (cells-without kind by g gs (y ∷ ys) absent)
    by_cases put false e false k = ap₂ (λ c cs. c ∷ cs) (cell-without kind by g gs y e) (put e)

-- one more record before the others
pub cells-more : (kind : Kind) (by : Group) (g : Given) (gs : List Given) → cells_of kind by (g ∷ gs) ≡ put_cell (group_of by g) (summand kind g) (cells_of kind by gs)
cells-more kind by g gs = cells-put kind by g gs (groups by gs) (RisesSigned-groups by gs) (absent-none by (group_of by g) gs)

-- ---- the rows of cells

total-sum : (c : Col) (gs : List Given) → total (Sum c) gs ≡ sum_of c gs
total-sum c [] = refl
total-sum c (g ∷ gs) = ap (λ s. summand (Sum c) g +ℤ s) (total-sum c gs)

-- a kind that makes rows of groups
abbrev pub HasGroups : Kind → Type 0
HasGroups (Sum c) = Unit {0}
HasGroups Count = Unit {0}
HasGroups Select = ⊥
HasGroups Join = ⊥

told : (kind : Kind) (by : Group) (gs : List Given) (z : ℤ) → HasGroups kind → value_told kind (cell_of kind by gs z) ≡ value_of kind (of_group by z gs)
told (Sum c) by gs z h = total-sum c (of_group by z gs)
told Count by gs z h = refl
told Select by gs z h = absurd h
told Join by gs z h = absurd h

rows-of : (p : Plan) (k : ℕ) (gs : List Given) (ys : List ℤ) → HasGroups p.kind → map (row_of p k) (map (cell_of p.kind p.group gs) ys) ≡ map (group_row p k gs) ys
rows-of p k gs [] h = refl
rows-of p k gs (z ∷ ys) h = ap₂ (λ v l. Agg (start_of p.win k) (end_of p.win k) (group_told p.group z) v ∷ l) (told p.kind p.group gs z h) (rows-of p k gs ys h)

-- the rows of the cells are those of the groups
pub rows-cells : (p : Plan) (k : ℕ) (gs : List Given) → HasGroups p.kind → map (row_of p k) (cells_of p.kind p.group gs) ≡ group_rows p k gs
rows-cells p k gs h = rows-of p k gs (groups p.group gs) h

-- a step of a fold from the last record to the first
pub fold-more : (kind : Kind) (by : Group) (gs : List Given) (left : ℕ) (d : Given) (cells new : List Cell) (z value : ℤ) → 0 < left → left ≤ length gs
    → z ≡ group_of by (get_or gs (left - 1) d) → value ≡ summand kind (get_or gs (left - 1) d) → cells ≡ cells_of kind by (drop left gs) → new ≡ put_cell z value cells
    → new ≡ cells_of kind by (drop (left - 1) gs)
fold-more kind by gs left d cells new z value some within same adds before is =
    let g = get_or gs (left - 1) d in
    let next : suc (left - 1) ≡ left = omega (arith, some) in
    is
    ∙ ap₂ (λ y x. put_cell y x cells) same adds
    ∙ ap (put_cell (group_of by g) (summand kind g)) before
    ∙ sym (cells-more kind by g (drop left gs))
    ∙ ap (cells_of kind by) (sym (drop-cons gs (left - 1) d (omega (arith, some, within)) ∙ ap (λ j. g ∷ drop j gs) next))

-- the rows of the cells of a window, of a query that has groups
pub window-groups : (p : Plan) (k : ℕ) (lefts rights inside : List Given) → inside ≡ within p.win k lefts → ((c : Col) × (p.kind ≡ Sum c)) ⊎ (p.kind ≡ Count)
    → text_of_rows (map (row_of p k) (cells_of p.kind p.group inside)) ≡ text_of_rows (rows_with p lefts rights k)
window-groups p k lefts rights inside same (inl s) =
    ap text_of_rows (rows-cells p k inside (subst HasGroups (sym s.1) tt) ∙ ap (group_rows p k) same ∙ ap (λ kind. rows_as kind p k (within p.win k lefts) (within p.win k rights)) (sym s.1))
window-groups p k lefts rights inside same (inr e) =
    ap text_of_rows (rows-cells p k inside (subst HasGroups (sym e) tt) ∙ ap (group_rows p k) same ∙ ap (λ kind. rows_as kind p k (within p.win k lefts) (within p.win k rights)) (sym e))
