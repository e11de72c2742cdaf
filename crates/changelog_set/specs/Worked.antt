-- A worked row of entries, evaluated on the definitions alone.
use Rattle.std.specs.Prelude.{◌≡◌, refl, Bool, false, true, List, [], ◌∷◌, replicate, slice_set}
use Rattle.changelog_set.specs.Sets.{has, unchanged}

-- slot 0, then slots 0 and 2
abbrev row : List (List Bool)
row =
    let first = slice_set (replicate 512 false) 0 true in
    first ∷ slice_set first 2 true ∷ []

pub first_touches_0 : has 0 (unchanged row 0 1) ≡ false
unfolding unchanged
first_touches_0 = refl

pub first_leaves_2 : has 2 (unchanged row 0 1) ≡ true
unfolding unchanged
first_leaves_2 = refl

pub second_touches_0 : has 0 (unchanged row 1 2) ≡ false
unfolding unchanged
second_touches_0 = refl

pub second_touches_2 : has 2 (unchanged row 1 2) ≡ false
unfolding unchanged
second_touches_2 = refl

pub second_leaves_1 : has 1 (unchanged row 1 2) ≡ true
unfolding unchanged
second_leaves_1 = refl

pub none_between : unchanged row 1 1 ≡ replicate 512 true
unfolding unchanged
none_between = refl
