-- Cells held in rows, one for each group, with a place for each column; a slot that has cells has a column. A place whose
-- cell counts nothing is empty, and so are those beyond the end of a row.
use Rattle.std.specs.Prelude.{◌≡◌, ◌⊎◌, ℕ, ℤ, ◌<◌, ◌≤◌, ◌+◌, ◌^◌, ◌==◌, ◌++◌, true, false, if◌then◌else◌, Bool, List, [], ◌∷◌, length, count_by, slice_index_or, slice_set}
use Rattle.std.specs.Ordering.{int_eq}
use Rattle.std.specs.List.{AllByRecursion}
use Rattle.as_base.specs.declared.fragment.Cell.{Cell}
use Rattle.group_table.specs.Cells.{blank, plus, IsSound}
use Rattle.group_table.specs.Totals.{total}

-- the cell in a place, where there is one
abbrev pub shown : Cell → List Cell
shown c = if c.count == 0 then [] else c ∷ []

-- the cells in some places
abbrev pub all_shown : List Cell → List Cell
all_shown [] = []
all_shown (c ∷ cs) = shown c ++ all_shown cs

-- the places of a column, one of each row
abbrev pub column : ℕ → List (List Cell) → List Cell
column number [] = []
column number (row ∷ rows) = slice_index_or row number blank ∷ column number rows

-- the rows with no cell in a column
abbrev pub without : ℕ → List (List Cell) → List (List Cell)
without number [] = []
without number (row ∷ rows) = slice_set row number blank ∷ without number rows

-- the groups, one a row; the places of each; the number of each slot's column, 512 for a slot without; how many columns
pub record Grid : Type 0 where
  pub keys : List ℤ
  pub rows : List (List Cell)
  pub numbers : List ℕ
  pub width : ℕ

-- the cells of a slot, in the order held
abbrev pub cells_of : Grid → ℕ → List Cell
cells_of grid slot = all_shown (column (slice_index_or grid.numbers slot 512) grid.rows)

-- a cell of the group, or of nothing
pub record IsPlace (group : ℤ) (c : Cell) : Type 0 where
  pub sound : IsSound c
  pub group_is : 0 < c.count → c.group ≡ group

-- each row is of its group, and those beyond the groups have no place
abbrev pub AreRows : List ℤ → List (List Cell) → Type 0
AreRows [] [] = Unit {0}
AreRows [] (row ∷ rows) = (row ≡ []) × AreRows [] rows
AreRows (key ∷ keys) [] = Unit {0}
AreRows (key ∷ keys) (row ∷ rows) = AllByRecursion (IsPlace key) row × AreRows keys rows

-- no group twice
abbrev pub AreApart : List ℤ → Type 0
AreApart [] = Unit {0}
AreApart (g ∷ gs) = AllByRecursion (λ later. int_eq g later ≡ false) gs × AreApart gs

-- the number of each slot, and how many there are
pub record Numbering : Type 0 where
  pub numbers : List ℕ
  pub width : ℕ

-- no two slots have one number
abbrev pub AreGiven : Numbering → Type 0
AreGiven n = (s t : ℕ) → slice_index_or n.numbers s 512 < n.width → slice_index_or n.numbers s 512 ≡ slice_index_or n.numbers t 512 → s ≡ t

-- A slot has the number that it had, or one that none had before, as it has now.
pub record AreMore (old new : Numbering) : Type 0 where
  pub wider : old.width ≤ new.width
  pub fresh : (s : ℕ) → (slice_index_or new.numbers s 512 ≡ slice_index_or old.numbers s 512) ⊎ ((old.width ≤ slice_index_or old.numbers s 512) × (old.width ≤ slice_index_or new.numbers s 512))

-- each known slot has a number of its own
pub record AreNumbers (numbers : List ℕ) (known : List Bool) (width : ℕ) : Type 0 where
  pub slots : length numbers ≡ 512
  pub sets : length known ≡ 512
  pub many : width ≡ count_by (λ on. on) known
  pub given : (s : ℕ) → slice_index_or known s false ≡ true → slice_index_or numbers s 512 < width
  pub none : (s : ℕ) → slice_index_or known s false ≡ false → slice_index_or numbers s 512 ≡ 512
  pub apart : (s t : ℕ) → slice_index_or numbers s 512 < width → slice_index_or numbers s 512 ≡ slice_index_or numbers t 512 → s ≡ t

-- what stands in a slot's place of a row
abbrev pub place_of : List ℕ → List Cell → ℕ → Cell
place_of numbers row s = slice_index_or row (slice_index_or numbers s 512) blank

-- A row has a place of its own for each of these slots, with room for a cell more.
pub record Takes (row : List Cell) (numbers : List ℕ) (slots : List Bool) (c : Cell) : Type 0 where
  pub sound : IsSound c
  pub some : 0 < c.count
  pub held : AllByRecursion (IsPlace c.group) row
  pub long : length numbers ≡ 512
  pub within : (s : ℕ) → slice_index_or slots s false ≡ true → slice_index_or numbers s 512 < length row
  pub apart : (s t : ℕ) → slice_index_or numbers s 512 < length row → slice_index_or numbers s 512 ≡ slice_index_or numbers t 512 → s ≡ t
  pub few : (s : ℕ) → slice_index_or slots s false ≡ true → c.count + (place_of numbers row s).count ≤ 2 ^ 62

-- The cell was added to the places of these slots, of which so many were empty.
pub record HasAdded (old new : List Cell) (numbers : List ℕ) (slots : List Bool) (c : Cell) (fresh : ℕ) : Type 0 where
  pub long : length new ≡ length old
  pub held : AllByRecursion (IsPlace c.group) new
  pub cells : (s : ℕ) → place_of numbers new s ≡ (if slice_index_or slots s false then plus c (place_of numbers old s) else place_of numbers old s)
  pub most : fresh ≤ 512
  pub counted : total (λ s. shown (place_of numbers new s)) ≡ total (λ s. shown (place_of numbers old s)) + fresh

-- rows over groups of which none comes twice, no longer than there are columns, and how many cells they have
pub record IsLarge (keys : List ℤ) (rows : List (List Cell)) (numbers : List ℕ) (width count : ℕ) : Type 0 where
  pub apart : AreApart keys
  pub room : length keys ≤ length rows
  pub each : AreRows keys rows
  pub narrow : AllByRecursion (λ row. length row ≤ width) rows
  pub counted : count ≡ total (λ slot. all_shown (column (slice_index_or numbers slot 512) rows))
