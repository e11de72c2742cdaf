-- The groups of records: each once, by rising number.
use Rattle.std.proofs.Common.{◌≡◌, ℤ, ◌<ℤ◌, int_le, Bool, true, false, cond, ◌||◌, List, [], ◌∷◌, refl, sym, ap, ◌∙◌, arith}
use Rattle.std.specs.List.{list_any, AllPairs, AllByRecursion}
use Rattle.std.specs.Ordering.{int_eq}
use Rattle.std.proofs.lemmas.Bool.Decides.{Decides-int_eq, not_from_Decides}
use Rattle.std.proofs.lemmas.Int.{ints}
use Rattle.std.proofs.lemmas.List.Elements.{All-from_recursion}
use Rattle.std.proofs.lemmas.List.Kept.{AllPairs-cons}
use Rattle.as_base.specs.declared.item.Given.{Given}
use Rattle.as_base.specs.declared.query.Group.{Group}
use Rattle.views.specs.Groups.{group_of, put_group, groups}
use Rattle.views.proofs.ListLaws.{All-by}
use Rattle.views.proofs.RisingLaws.{or_swap, or_twice}

-- each number is below all later ones
abbrev pub RisesSigned : List ℤ → Type 0
RisesSigned [] = Unit {0}
RisesSigned (z ∷ zs) = AllByRecursion (λ y. z <ℤ y) zs × RisesSigned zs

pub RisesSigned-pairs : (zs : List ℤ) → RisesSigned zs → AllPairs ◌<ℤ◌ zs
RisesSigned-pairs [] h = λ i j d low within. absurd (omega (arith, within))
RisesSigned-pairs (z ∷ zs) h = AllPairs-cons ◌<ℤ◌ z zs (All-from_recursion (λ y. z <ℤ y) zs h.0) (RisesSigned-pairs zs h.1)

below : (z y : ℤ) → ¬ (z ≡ y) → int_le z y ≡ true → z <ℤ y
below z y apart low = grind (arith, ints)

not_below : (z y : ℤ) → ¬ (z ≡ y) → int_le z y ≡ false → y <ℤ z
not_below z y apart high = grind (arith, ints)

below_both : (x y z : ℤ) → x <ℤ y → y <ℤ z → x <ℤ z
below_both x y z a b = grind (arith, ints)

-- what holds of the number and of each of the others
pub All-put_group : (P : ℤ → Type 0) (z : ℤ) (ys : List ℤ) → P z → AllByRecursion P ys → AllByRecursion P (put_group z ys)
All-put_group P z [] here h = (here, tt)
All-put_group P z (y ∷ ys) here h = go (int_eq z y) (int_le z y) (All-put_group P z ys here h.1)
  where
    go : (same low : Bool) → AllByRecursion P (put_group z ys) → AllByRecursion P (cond same (y ∷ ys) (cond low (z ∷ y ∷ ys) (y ∷ put_group z ys)))
    go true low rest = h
    go false true rest = (here, h)
    go false false rest = (h.0, rest)

pub RisesSigned-put_group : (z : ℤ) (ys : List ℤ) → RisesSigned ys → RisesSigned (put_group z ys)
RisesSigned-put_group z [] h = (tt, tt)
RisesSigned-put_group z (y ∷ ys) h = go (int_eq z y) (int_le z y) refl refl (RisesSigned-put_group z ys h.1)
  where
    go : (same low : Bool) → int_eq z y ≡ same → int_le z y ≡ low → RisesSigned (put_group z ys) → RisesSigned (cond same (y ∷ ys) (cond low (z ∷ y ∷ ys) (y ∷ put_group z ys)))
    go true low e f rest = h
    go false true e f rest =
        let first = below z y (not_from_Decides (int_eq z y) (Decides-int_eq z y) e) f in
        ((first, All-by (λ x. y <ℤ x) (λ x. z <ℤ x) (λ x later. below_both z y x first later) ys h.0), h)
    go false false e f rest = (All-put_group (λ x. y <ℤ x) z ys (not_below z y (not_from_Decides (int_eq z y) (Decides-int_eq z y) e) f) h.0, rest)

pub RisesSigned-groups : (by : Group) (gs : List Given) → RisesSigned (groups by gs)
RisesSigned-groups by [] = tt
RisesSigned-groups by (g ∷ gs) = RisesSigned-put_group (group_of by g) (groups by gs) (RisesSigned-groups by gs)

pub list_any-put_group : (q : ℤ → Bool) (z : ℤ) (ys : List ℤ) → list_any q (put_group z ys) ≡ (q z || list_any q ys)
list_any-put_group q z [] = refl
list_any-put_group q z (y ∷ ys) = go (int_eq z y) (int_le z y) refl (list_any-put_group q z ys)
  where
    go : (same low : Bool) → int_eq z y ≡ same → list_any q (put_group z ys) ≡ (q z || list_any q ys)
        → list_any q (cond same (y ∷ ys) (cond low (z ∷ y ∷ ys) (y ∷ put_group z ys))) ≡ (q z || (q y || list_any q ys))
    go true low e rest = or_twice (q y) (list_any q ys) ∙ ap (λ x. q x || (q y || list_any q ys)) (sym ((Decides-int_eq z y).0 e))
    go false true e rest = refl
    go false false e rest = ap (λ b. q y || b) rest ∙ or_swap (q y) (q z) (list_any q ys)

-- a group passes a test just where that of some record does
pub list_any-groups : (q : ℤ → Bool) (by : Group) (gs : List Given) → list_any q (groups by gs) ≡ list_any (λ (g : Given). q (group_of by g)) gs
list_any-groups q by [] = refl
list_any-groups q by (g ∷ gs) = list_any-put_group q (group_of by g) (groups by gs) ∙ ap (λ b. q (group_of by g) || b) (list_any-groups q by gs)
