-- The pairs of records that a join makes in a window, in the order of the numbers of their rows.
use Rattle.std.specs.Prelude.{if◌then◌else◌, List, [], ◌∷◌, map}
use Rattle.std.specs.Cmp.Lexicographic.{slice_cmp}
use Rattle.std.specs.List.{filter, flat_map}
use Rattle.std.specs.Ordering.{int_eq, int_cmp, nat_cmp, is_lt, ordering_then}
use Rattle.std.specs.declared.cmp.Ordering.{Ordering}
use Rattle.as_base.specs.declared.fragment.Couple.{Couple}
use Rattle.as_base.specs.declared.item.Given.{Given}

-- a left and a right record
abbrev pub couple : Given → Given → Couple
couple l r = record { left = l; right = r }

-- the left record with each right one of its key
abbrev pub couples_with : List Given → Given → List Couple
couples_with rights l = map (couple l) (filter (λ (r : Given). int_eq l.key r.key) rights)

-- each left record with each right one of its key
abbrev pub couples : List Given → List Given → List Couple
couples lefts rights = flat_map (couples_with rights) lefts

-- two pairs by the numbers of their rows, from left to right: the key, the left record's time and its values, the right
-- record's time and its values
abbrev pub compare : Couple → Couple → Ordering
compare c d =
    ordering_then (ordering_then (ordering_then (ordering_then
    (int_cmp c.left.key d.left.key)
    (nat_cmp c.left.time d.left.time))
    (slice_cmp int_cmp c.left.v d.left.v))
    (nat_cmp c.right.time d.right.time))
    (slice_cmp int_cmp c.right.v d.right.v)

-- the pair, put before the first that is not below it
abbrev pub put_couple : Couple → List Couple → List Couple
put_couple c [] = c ∷ []
put_couple c (d ∷ ds) = if is_lt (compare d c) then d ∷ put_couple c ds else c ∷ d ∷ ds

-- the pairs by the numbers of their rows; equal ones stay
abbrev pub by_numbers : List Couple → List Couple
by_numbers [] = []
by_numbers (c ∷ cs) = put_couple c (by_numbers cs)

-- The pairs that a join makes of the records of a window, in order.
abbrev pub pairs : List Given → List Given → List Couple
pairs lefts rights = by_numbers (couples lefts rights)
