-- The rows of the cells that records add up to are the rows of their groups.
use Rattle.std.proofs.Common.{◌≡◌, ◌⊎◌, inl, inr, ℕ, ℤ, pos, ◌+ℤ◌, ◌+◌, ◌<ℤ◌, ◌||◌, int_lt, int_le, Bool, true, false, cond, List, [], ◌∷◌, ◌++◌, map, length, refl, sym, ap, ap₂, ◌∙◌, arith}
use Rattle.std.proofs.lemmas.Bool.{or_parts, both_ways}
use Rattle.std.proofs.lemmas.Bool.Decides.{Decides-int_eq, not_from_Decides}
use Rattle.std.proofs.lemmas.Int.{ints}
use Rattle.std.specs.List.{filter, flat_map, list_any, AllByRecursion}
use Rattle.std.specs.Ordering.{int_eq}
use Rattle.as_base.specs.declared.fragment.Cell.{Cell}
use Rattle.as_base.specs.declared.item.Given.{Given}
use Rattle.as_base.specs.declared.item.Record.{Record}
use Rattle.as_base.specs.declared.query.Group.{Group}
use Rattle.as_base.specs.declared.query.Kind.{Kind}
use Rattle.as_base.specs.declared.query.Kind.TheVariants.{Select, Sum, Count, Join}
use Rattle.as_base.specs.declared.query.Plan.{Plan}
use Rattle.as_base.specs.declared.row.Row.TheVariants.{Agg}
use Rattle.as_base.specs.Windows.{start_of, end_of, in_window}
use Rattle.group_table.specs.Cells.{plus, add_in, sums}
use Rattle.group_table.proofs.CellLaws.{fold_last, past, here, one}
use Rattle.shared_agg.specs.Shares.{cell_of, share_of}
use Rattle.views.specs.Groups.{group_told, group_of, put_group, groups, of_group, sum_of, value_of, value_at}
use Rattle.views.specs.Passed.{given_to, within}
use Rattle.views.specs.Query.{Query}
use Rattle.views.specs.Rows.{group_row, group_rows, rows, rows_as}
use Rattle.views.specs.View.{is_mine}
use Rattle.views.proofs.GroupLaws.{RisesSigned, RisesSigned-groups, list_any-groups}
use Rattle.views.proofs.ListLaws.{filter-map, filter-filter, filter-none}
use Rattle.contents.specs.Cells.{adds_up, is_in_window, window_sums}
use Rattle.contents.specs.Past.{Past, view_of}
use Rattle.contents.specs.Rows.{told_of, cell_row}

-- ---- order of groups

lt-of : (z y : ℤ) → z <ℤ y → int_lt z y ≡ true
lt-of z y h = grind (arith, ints)

below : (z y : ℤ) → ¬ (z ≡ y) → int_le z y ≡ true → int_lt z y ≡ true
below z y apart low = grind (arith, ints)

from-lt : (z y : ℤ) → int_lt z y ≡ true → z <ℤ y
from-lt z y h = grind (arith, ints)

not-below : (z y : ℤ) → ¬ (z ≡ y) → int_le z y ≡ false → int_lt y z ≡ true
not-below z y apart high = grind (arith, ints)

-- ---- the cell of a group

-- what the records of a group add up to in the sum of a query of this kind
abbrev pub cell_sum : Kind → List Given → ℤ
cell_sum (Sum c) gs = sum_of c gs
cell_sum Count gs = pos 0
cell_sum Select gs = pos 0
cell_sum Join gs = pos 0

abbrev pub cell_for : Group → Kind → List Given → ℤ → Cell
cell_for by kind gs z = record { group = z; sum = cell_sum kind (of_group by z gs); count = length (of_group by z gs) }

-- what one record adds
abbrev pub own_cell : Group → Kind → Given → Cell
own_cell by (Sum c) g = cell_of (group_of by g) (value_at c g)
own_cell by Count g = cell_of (group_of by g) (pos 0)
own_cell by Select g = cell_of (group_of by g) (pos 0)
own_cell by Join g = cell_of (group_of by g) (pos 0)

share-is : (by : Group) (kind : Kind) (g : Given) → adds_up kind ≡ true → share_of by kind g ≡ own_cell by kind g ∷ []
share-is by (Sum c) g e = refl
share-is by Count g e = refl
share-is by Select g e = absurd (both_ways false refl e)
share-is by Join g e = absurd (both_ways false refl e)

own-group : (by : Group) (kind : Kind) (g : Given) → (own_cell by kind g).group ≡ group_of by g
own-group by (Sum c) g = refl
own-group by Count g = refl
own-group by Select g = refl
own-group by Join g = refl

add-turn : (a b : ℤ) → a +ℤ b ≡ b +ℤ a
add-turn a b = grind (arith, ints)

add-none : (a : ℤ) → a +ℤ pos 0 ≡ a
add-none a = grind (arith, ints)

abbrev a_cell : ℤ → ℤ → ℕ → Cell
a_cell z s n = record { group = z; sum = s; count = n }

cell-eq : (z z' s s' : ℤ) (n n' : ℕ) → z ≡ z' → s ≡ s' → n ≡ n' → a_cell z s n ≡ a_cell z' s' n'
cell-eq z z' s s' n n' a b c = ap₂ (λ x y. a_cell x y n) a b ∙ ap (λ m. a_cell z' s' m) c

-- of the group of a record that comes the cell is the old one with the record's
same-group : (by : Group) (kind : Kind) (g : Given) (gs : List Given) (z : ℤ) → group_of by g ≡ z → plus (cell_for by kind gs z) (own_cell by kind g) ≡ cell_for by kind (g ∷ gs) z
same-group by kind g gs z e =
    let here : of_group by z (g ∷ gs) ≡ g ∷ of_group by z gs = ap (λ b. cond b (g ∷ of_group by z gs) (of_group by z gs)) ((Decides-int_eq (group_of by g) z).1 e) in
    with_kind kind ∙ ap (λ l. a_cell z (cell_sum kind l) (length l)) (sym here)
  where
    with_kind : (kind : Kind) → plus (cell_for by kind gs z) (own_cell by kind g) ≡ a_cell z (cell_sum kind (g ∷ of_group by z gs)) (length (g ∷ of_group by z gs))
    with_kind (Sum c) = cell-eq z z (sum_of c (of_group by z gs) +ℤ value_at c g) (value_at c g +ℤ sum_of c (of_group by z gs)) (length (of_group by z gs) + 1) (length (g ∷ of_group by z gs)) refl (add-turn (sum_of c (of_group by z gs)) (value_at c g)) (omega arith)
    with_kind Count = cell-eq z z (pos 0 +ℤ pos 0) (pos 0) (length (of_group by z gs) + 1) (length (g ∷ of_group by z gs)) refl (add-none (pos 0)) (omega arith)
    with_kind Select = cell-eq z z (pos 0 +ℤ pos 0) (pos 0) (length (of_group by z gs) + 1) (length (g ∷ of_group by z gs)) refl (add-none (pos 0)) (omega arith)
    with_kind Join = cell-eq z z (pos 0 +ℤ pos 0) (pos 0) (length (of_group by z gs) + 1) (length (g ∷ of_group by z gs)) refl (add-none (pos 0)) (omega arith)

-- of a new group it is the record's own
new-group : (by : Group) (kind : Kind) (g : Given) (gs : List Given) (z : ℤ) → group_of by g ≡ z → of_group by z gs ≡ [] → own_cell by kind g ≡ cell_for by kind (g ∷ gs) z
new-group by kind g gs z e none =
    let here : of_group by z (g ∷ gs) ≡ g ∷ [] = ap (λ b. cond b (g ∷ of_group by z gs) (of_group by z gs)) ((Decides-int_eq (group_of by g) z).1 e) ∙ ap (λ l. g ∷ l) none in
    with_kind kind ∙ ap (λ l. a_cell z (cell_sum kind l) (length l)) (sym here)
  where
    with_kind : (kind : Kind) → own_cell by kind g ≡ a_cell z (cell_sum kind (g ∷ [])) 1
    with_kind (Sum c) = cell-eq (group_of by g) z (value_at c g) (value_at c g +ℤ pos 0) 1 1 e (sym (add-none (value_at c g))) refl
    with_kind Count = cell-eq (group_of by g) z (pos 0) (pos 0) 1 1 e refl refl
    with_kind Select = cell-eq (group_of by g) z (pos 0) (pos 0) 1 1 e refl refl
    with_kind Join = cell-eq (group_of by g) z (pos 0) (pos 0) 1 1 e refl refl

-- and the cells of other groups stay
other-group : (by : Group) (kind : Kind) (g : Given) (gs : List Given) (y : ℤ) → ¬ (group_of by g ≡ y) → cell_for by kind gs y ≡ cell_for by kind (g ∷ gs) y
other-group by kind g gs y apart =
    ap (λ l. a_cell y (cell_sum kind l) (length l))
    (sym (ap (λ b. cond b (g ∷ of_group by y gs) (of_group by y gs)) (no-eq (group_of by g) y apart)))
  where
    no-eq : (a b : ℤ) → ¬ (a ≡ b) → int_eq a b ≡ false
    no-eq a b n = grind (arith, ints)

-- ---- one record more

module _ (by : Group) (kind : Kind) (g : Given) (gs : List Given) where
  abbrev new_z : ℤ
  new_z = group_of by g

  same-cells : (ys : List ℤ) → AllByRecursion (λ y. ¬ (group_of by g ≡ y)) ys → map (cell_for by kind gs) ys ≡ map (cell_for by kind (g ∷ gs)) ys
  same-cells [] a = refl
  same-cells (y ∷ ys) a = ap₂ (λ c cs. c ∷ cs) (other-group by kind g gs y a.0) (same-cells ys a.1)

  above-apart : (y : ℤ) (ys : List ℤ) → (group_of by g ≡ y) ⊎ (group_of by g <ℤ y) → AllByRecursion (λ x. y <ℤ x) ys → AllByRecursion (λ x. ¬ (group_of by g ≡ x)) ys
  above-apart y [] low a = tt
  above-apart y (x ∷ ys) low a = (apart low a.0, above-apart y ys low a.1)
    where
      apart : (group_of by g ≡ y) ⊎ (group_of by g <ℤ y) → y <ℤ x → ¬ (group_of by g ≡ x)
      apart (inl e) l f = grind (arith, ints)
      apart (inr k) l f = grind (arith, ints)

  none-equal : (ys : List ℤ) → AllByRecursion (λ x. ¬ (group_of by g ≡ x)) ys → list_any (λ x. int_eq x (group_of by g)) ys ≡ false
  none-equal [] a = refl
  none-equal (x ∷ ys) a = ap (λ b. b || list_any (λ y. int_eq y (group_of by g)) ys) (no-eq x (group_of by g) a.0) ∙ none-equal ys a.1
    where
      no-eq : (a b : ℤ) → ¬ (b ≡ a) → int_eq a b ≡ false
      no-eq a b n = grind (arith, ints)

  put-in : (ys : List ℤ) → RisesSigned ys → (list_any (λ x. int_eq x (group_of by g)) ys ≡ false → of_group by (group_of by g) gs ≡ [])
      → add_in (map (cell_for by kind gs) ys) (own_cell by kind g) ≡ map (cell_for by kind (g ∷ gs)) (put_group (group_of by g) ys)
  put-in [] rise absent = ap (λ c. c ∷ []) (new-group by kind g gs (group_of by g) refl (absent refl))
  put-in (y ∷ ys) rise absent = go (int_eq (group_of by g) y) (int_le (group_of by g) y) refl refl (put-in ys rise.1)
    where
      go : (same low : Bool) → int_eq (group_of by g) y ≡ same → int_le (group_of by g) y ≡ low
          → ((list_any (λ x. int_eq x (group_of by g)) ys ≡ false → of_group by (group_of by g) gs ≡ []) → add_in (map (cell_for by kind gs) ys) (own_cell by kind g) ≡ map (cell_for by kind (g ∷ gs)) (put_group (group_of by g) ys))
          → add_in (cell_for by kind gs y ∷ map (cell_for by kind gs) ys) (own_cell by kind g) ≡ map (cell_for by kind (g ∷ gs)) (cond same (y ∷ ys) (cond low (group_of by g ∷ y ∷ ys) (y ∷ put_group (group_of by g) ys)))
      go true low e f rest =
          let is : group_of by g ≡ y = (Decides-int_eq (group_of by g) y).0 e in
          one (cell_for by kind gs y) (map (cell_for by kind gs) ys) (own_cell by kind g) (sym is ∙ sym (own-group by kind g))
          ∙ ap₂ (λ c cs. c ∷ cs) (same-group by kind g gs y is) (same-cells ys (above-apart y ys (inl is) rise.0))
      go false true e f rest =
          let apart = not_from_Decides (int_eq (group_of by g) y) (Decides-int_eq (group_of by g) y) e in
          let first : int_lt (group_of by g) y ≡ true = below (group_of by g) y apart f in
          let all : AllByRecursion (λ x. ¬ (group_of by g ≡ x)) (y ∷ ys) = (apart, above-apart y ys (inr (from-lt (group_of by g) y first)) rise.0) in
          here (cell_for by kind gs y) (map (cell_for by kind gs) ys) (own_cell by kind g) (ap (λ z. int_lt z y) (own-group by kind g) ∙ first)
          ∙ ap₂ (λ c cs. c ∷ cs) (new-group by kind g gs (group_of by g) refl (absent (none-equal (y ∷ ys) all))) (same-cells (y ∷ ys) all)
      go false false e f rest =
          let apart = not_from_Decides (int_eq (group_of by g) y) (Decides-int_eq (group_of by g) y) e in
          past (cell_for by kind gs y) (map (cell_for by kind gs) ys) (own_cell by kind g) (ap (λ z. int_lt y z) (own-group by kind g) ∙ not-below (group_of by g) y apart f)
          ∙ ap₂ (λ c cs. c ∷ cs) (other-group by kind g gs y apart)
          (rest (λ none. absent (ap (λ b. b || list_any (λ x. int_eq x (group_of by g)) ys) (no-eq y (group_of by g) apart) ∙ none)))
        where
          no-eq : (a b : ℤ) → ¬ (b ≡ a) → int_eq a b ≡ false
          no-eq a b n = grind (arith, ints)

-- where no record has the group, there is none of it
none-of-group : (by : Group) (z : ℤ) (gs : List Given) → list_any (λ x. int_eq x z) (groups by gs) ≡ false → of_group by z gs ≡ []
none-of-group by z gs e = filter-none (λ (g : Given). int_eq (group_of by g) z) gs (each gs (sym (list_any-groups (λ x. int_eq x z) by gs) ∙ e))
  where
    each : (gs : List Given) → list_any (λ (g : Given). int_eq (group_of by g) z) gs ≡ false → AllByRecursion (λ (g : Given). int_eq (group_of by g) z ≡ false) gs
    each [] e = tt
    each (g ∷ gs) e = let p = or_parts (int_eq (group_of by g) z) (list_any (λ (g : Given). int_eq (group_of by g) z) gs) e in (p.0, each gs p.1)

-- the cells that records add up to are those of their groups
cells-of-groups : (by : Group) (kind : Kind) → adds_up kind ≡ true → (gs : List Given) → sums (flat_map (share_of by kind) gs) ≡ map (cell_for by kind gs) (groups by gs)
cells-of-groups by kind adds [] = refl
cells-of-groups by kind adds (g ∷ gs) =
    ap (λ l. sums (l ++ flat_map (share_of by kind) gs)) (share-is by kind g adds)
    ∙ fold_last [] (own_cell by kind g) (flat_map (share_of by kind) gs)
    ∙ ap (λ l. add_in l (own_cell by kind g)) (cells-of-groups by kind adds gs)
    ∙ put-in by kind g gs (groups by gs) (RisesSigned-groups by gs) (none-of-group by (group_of by g) gs)

-- ---- rows

map-map : {X Y Z : Type 0} (f : Y → Z) (g : X → Y) (h : X → Z) → ((x : X) → f (g x) ≡ h x) → (xs : List X) → map f (map g xs) ≡ map h xs
map-map f g h same [] = refl
map-map f g h same (x ∷ xs) = ap₂ (λ y ys. y ∷ ys) (same x) (map-map f g h same xs)

row-of-group : (p : Plan) (k : ℕ) (gs : List Given) (kind : Kind) → p.kind ≡ kind → adds_up kind ≡ true → (z : ℤ) → cell_row p k (cell_for p.group p.kind gs z) ≡ group_row p k gs z
row-of-group p k gs kind is adds z = ap (λ value. Agg (start_of p.win k) (end_of p.win k) (group_told p.group z) value) (value-is kind is adds)
  where
    value-is : (kind : Kind) → p.kind ≡ kind → adds_up kind ≡ true → told_of p.kind (cell_for p.group p.kind gs z) ≡ value_of p.kind (of_group p.group z gs)
    value-is (Sum c) is adds = ap (λ kd. told_of kd (cell_for p.group kd gs z)) is ∙ sym (ap (λ kd. value_of kd (of_group p.group z gs)) is)
    value-is Count is adds = ap (λ kd. told_of kd (cell_for p.group kd gs z)) is ∙ sym (ap (λ kd. value_of kd (of_group p.group z gs)) is)
    value-is Select is adds = absurd (both_ways false refl adds)
    value-is Join is adds = absurd (both_ways false refl adds)

flat-map-map : {X Y Z : Type 0} (f : Y → List Z) (g : X → Y) (xs : List X) → flat_map (λ x. f (g x)) xs ≡ flat_map f (map g xs)
flat-map-map f g [] = refl
flat-map-map f g (x ∷ xs) = ap (λ l. f (g x) ++ l) (flat-map-map f g xs)

-- the records in a window, as they were given
in-window : (q : Query) (k : ℕ) (records : List Record) → within q.plan.win k (map (λ (r : Record). r.given) (filter (is_mine q q.plan.left) records)) ≡ map (λ (r : Record). r.given) (filter (is_in_window q.plan.left q k) records)
in-window q k records =
    filter-map (λ (g : Given). in_window q.plan.win k g.time) (λ (r : Record). r.given) (filter (is_mine q q.plan.left) records)
    ∙ ap (map (λ (r : Record). r.given)) (filter-filter (λ (r : Record). in_window q.plan.win k r.given.time) (is_mine q q.plan.left) records)

-- the rows of a window of a sum or a count are those of the cells that its records add up to
pub rows-of-cells : (p : Past) (q : Query) (k : ℕ) → adds_up q.plan.kind ≡ true → map (cell_row q.plan k) (window_sums q k p.records) ≡ rows (view_of p) q k
rows-of-cells p q k adds =
    let inside : List Record = filter (is_in_window q.plan.left q k) p.records in
    let gs : List Given = map (λ (r : Record). r.given) inside in
    ap (λ l. map (cell_row q.plan k) (sums l)) (flat-map-map (share_of q.plan.group q.plan.kind) (λ (r : Record). r.given) inside)
    ∙ ap (map (cell_row q.plan k)) (cells-of-groups q.plan.group q.plan.kind adds gs)
    ∙ map-map (cell_row q.plan k) (cell_for q.plan.group q.plan.kind gs) (group_row q.plan k gs) (row-of-group q.plan k gs q.plan.kind refl adds) (groups q.plan.group gs)
    ∙ ap (λ l. group_rows q.plan k l) (sym (in-window q k p.records))
    ∙ sym (as-groups q.plan.kind refl adds)
  where
    as-groups : (kind : Kind) → q.plan.kind ≡ kind → adds_up kind ≡ true → rows (view_of p) q k ≡ group_rows q.plan k (within q.plan.win k (given_to (view_of p) q q.plan.left))
    as-groups (Sum c) is a = ap (λ kd. rows_as kd q.plan k (within q.plan.win k (given_to (view_of p) q q.plan.left)) (within q.plan.win k (given_to (view_of p) q q.plan.right))) is
    as-groups Count is a = ap (λ kd. rows_as kd q.plan k (within q.plan.win k (given_to (view_of p) q q.plan.left)) (within q.plan.win k (given_to (view_of p) q q.plan.right))) is
    as-groups Select is a = absurd (both_ways false refl a)
    as-groups Join is a = absurd (both_ways false refl a)
