-- Worked lines, evaluated on the definitions alone.
use Rattle.std.specs.Prelude.{◌≡◌, refl, [], ◌∷◌, map, codes}
use Rattle.std.specs.Fmt.{digits}
use Rattle.generate.specs.Generated.{mixed, drawn, line_of}

pub mixed_numbers : map (mixed 1 2) (1 ∷ 2 ∷ 3 ∷ 4 ∷ []) ≡ 55000 ∷ 9475 ∷ 29486 ∷ 49497 ∷ []
mixed_numbers = refl

pub drawn_numbers : map (drawn 1 2) (1 ∷ 2 ∷ 3 ∷ 4 ∷ []) ≡ 3633 ∷ 35963 ∷ 48287 ∷ 56988 ∷ []
drawn_numbers = refl

pub first_line : line_of 1 1 2 ≡ codes "create select from a where v1 < 30000"
first_line = refl

pub second_line : line_of 1 2 2 ≡ codes "rec a 20 17 35963 3 24220 0"
unfolding digits
second_line = refl

pub third_line : line_of 1 3 2 ≡ codes "rec b 30 24 21722 1 16810 0"
unfolding digits
third_line = refl

pub sixth_line : line_of 1 6 2 ≡ codes "rec a 60 28 1315 0 -5633 0"
unfolding digits
sixth_line = refl

pub eighth_line : line_of 1 8 3 ≡ codes "mark b 80"
unfolding digits
eighth_line = refl

-- the second creation, the third and the fourth, of streams that take turns
pub creations : map (λ i. line_of 1 i 2) (33 ∷ 65 ∷ 97 ∷ 129 ∷ 225 ∷ [])
    ≡ codes "create sum v1 by key from a slide 1000 250" ∷ codes "create count by v2 from a tumble 500 where key >= 8"
    ∷ codes "create join a b tumble 400" ∷ codes "create select from b where v1 < 30000" ∷ codes "create join b a tumble 400" ∷ []
creations = refl

-- the first deletion is of query 1, in the line in which the others are records before
pub first_deletion : line_of 1 273 2 ≡ codes "delete 1"
unfolding digits
first_deletion = refl
