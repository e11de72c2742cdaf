-- Sets of slots as lists of truth values, slot by slot.
use Rattle.std.specs.Prelude.{Bool, ◌&&◌, ◌||◌, not, List}
use Rattle.std.specs.List.{list_any}
use Rattle.std.specs.Simd.Lanes.{zip2}

-- on in both
abbrev pub both : List Bool → List Bool → List Bool
both = zip2 (λ a b. a && b)

-- on in either
abbrev pub either : List Bool → List Bool → List Bool
either = zip2 (λ a b. a || b)

-- on in the first and not in the second
abbrev pub but_not : List Bool → List Bool → List Bool
but_not = zip2 (λ a b. a && not b)

-- some slot is on
abbrev pub has_slot : List Bool → Bool
has_slot slots = list_any (λ on. on) slots

-- some slot is on in both
abbrev pub meets : List Bool → List Bool → Bool
meets a b = has_slot (both a b)
