-- Which records are within bounds, and the bounds that have every record within them.
use Rattle.std.specs.Prelude.{ℕ, ◌^◌, ◌-◌, ℤ, pos, negsuc, List, [], ◌∷◌, get_or, int_le, Bool, ◌&&◌}
use Rattle.as_base.specs.declared.item.Given.{Given}
use Rattle.as_base.specs.declared.query.Bounds.{Bounds}

-- the value is in the interval, both ends included
abbrev pub is_within : ℤ → ℤ → ℤ → Bool
is_within low value high = int_le low value && int_le value high

-- the number at this place of the list
abbrev pub at : List ℤ → ℕ → ℤ
at zs i = get_or zs i (pos 0)

-- the first two values are in their intervals
abbrev pub holds_front : Bounds → List ℤ → Bool
holds_front b v = is_within (at b.lo 1) (at v 0) (at b.hi 1) && is_within (at b.lo 2) (at v 1) (at b.hi 2)

-- the last two values are in their intervals
abbrev pub holds_back : Bounds → List ℤ → Bool
holds_back b v = is_within (at b.lo 3) (at v 2) (at b.hi 3) && is_within (at b.lo 4) (at v 3) (at b.hi 4)

-- the key and each value are in their intervals
abbrev pub holds_all : Bounds → Given → Bool
holds_all b g = is_within (at b.lo 0) g.key (at b.hi 0) && holds_front b g.v && holds_back b g.v

-- the least number that a field may have: -2^63
abbrev pub lowest : ℤ
lowest = negsuc (2 ^ 63 - 1)

-- the greatest number that a field may have: 2^63 - 1
abbrev pub highest : ℤ
highest = pos (2 ^ 63 - 1)

-- each field may have each number
abbrev pub unlimited : Bounds
unlimited = record {
  lo = lowest ∷ lowest ∷ lowest ∷ lowest ∷ lowest ∷ [];
  hi = highest ∷ highest ∷ highest ∷ highest ∷ highest ∷ [];
}
