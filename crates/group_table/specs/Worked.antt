-- A worked row, evaluated on the definitions alone.
use Rattle.std.specs.Prelude.{◌≡◌, ℤ, ℕ, pos, true, false, List, [], ◌∷◌, refl}
use Rattle.as_base.specs.declared.fragment.Cell.{Cell}
use Rattle.group_table.specs.Cells.{blank, sums, count_at}
use Rattle.group_table.specs.Grids.{all_shown, column, without, cells_of}
use Rattle.group_table.specs.Steps.{added_each}

abbrev cell : ℤ → ℤ → ℕ → Cell
cell group sum count = record { group = group; sum = sum; count = count }

-- group 5 with the values 3 and 4
pub one_group : sums (cell (pos 5) (pos 3) 1 ∷ cell (pos 5) (pos 4) 1 ∷ []) ≡ cell (pos 5) (pos 7) 2 ∷ []
one_group = refl

-- groups by rising number, in whatever order they come
pub three_groups : sums (cell (pos 9) (pos 1) 1 ∷ cell (pos 2) (pos 1) 1 ∷ cell (pos 5) (pos 1) 1 ∷ cell (pos 2) (pos 3) 1 ∷ [])
    ≡ cell (pos 2) (pos 4) 2 ∷ cell (pos 5) (pos 1) 1 ∷ cell (pos 9) (pos 1) 1 ∷ []
three_groups = refl

pub counted : count_at (cell (pos 2) (pos 4) 2 ∷ cell (pos 5) (pos 1) 1 ∷ []) (pos 2) ≡ 2
counted = refl

pub absent : count_at (cell (pos 2) (pos 4) 2 ∷ cell (pos 5) (pos 1) 1 ∷ []) (pos 3) ≡ 0
absent = refl

-- a record of group 5 and value 3 in the slots 1 and 2 of three, which have no cells yet
abbrev slot_of_three : ℕ → List Cell
slot_of_three = added_each (λ s. []) (false ∷ true ∷ true ∷ []) (cell (pos 5) (pos 3) 1)

pub in_two : slot_of_three 2 ≡ cell (pos 5) (pos 3) 1 ∷ []
in_two = refl

pub not_in_one : slot_of_three 0 ≡ []
not_in_one = refl

pub not_beyond : slot_of_three 3 ≡ []
not_beyond = refl

-- two rows of three columns, where the second row ends early: column 2 has one cell
abbrev rows : List (List Cell)
rows = (cell (pos 5) (pos 3) 1 ∷ blank ∷ cell (pos 5) (pos 4) 1 ∷ []) ∷ (cell (pos 6) (pos 9) 1 ∷ []) ∷ []

pub of_column : all_shown (column 2 rows) ≡ cell (pos 5) (pos 4) 1 ∷ []
of_column = refl

-- slot 0 has column 1, slot 1 none, and slot 2 column 0
pub of_slot : cells_of (record { keys = pos 5 ∷ pos 6 ∷ []; rows = rows; numbers = 1 ∷ 512 ∷ 0 ∷ []; width = 3 }) 2 ≡ cell (pos 5) (pos 3) 1 ∷ cell (pos 6) (pos 9) 1 ∷ []
of_slot = refl

pub emptied : all_shown (column 0 (without 0 rows)) ≡ []
emptied = refl
