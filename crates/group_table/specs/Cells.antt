-- Cells of groups: one more added to some, and all of some added up.
use Rattle.std.specs.Prelude.{◌≡◌, ℕ, ℤ, pos, neg_ℤ, ◌+ℤ◌, ◌≤ℤ◌, ◌≤◌, ◌<◌, ◌+◌, ◌*◌, ◌^◌, int_lt, true, false, if◌then◌else◌, length, slice_index_or, List, [], ◌∷◌, fold}
use Rattle.std.specs.Ordering.{int_eq}
use Rattle.std.specs.List.{AllByRecursion}
use Rattle.as_base.specs.declared.fragment.Cell.{Cell}

-- a cell of no records
abbrev pub blank : Cell
blank = record { group = pos 0; sum = pos 0; count = 0 }

-- two cells of one group as one: the sums and the counts are added
abbrev pub plus : Cell → Cell → Cell
plus c d = record { group = c.group; sum = c.sum +ℤ d.sum; count = c.count + d.count }

-- cells by rising group, with one more: it is added to that of its group, or else put into its place
abbrev pub add_in : List Cell → Cell → List Cell
add_in [] c = c ∷ []
add_in (d ∷ ds) c = if int_lt d.group c.group then d ∷ add_in ds c else (if int_lt c.group d.group then c ∷ d ∷ ds else plus d c ∷ ds)

-- all of the cells added up, by rising group
abbrev pub sums : List Cell → List Cell
sums cs = fold add_in [] cs

-- how many records of the group the cells count; 0 where the group is absent
abbrev pub count_at : List Cell → ℤ → ℕ
count_at [] group = 0
count_at (c ∷ cs) group = (if int_eq c.group group then c.count else 0) + count_at cs group

-- each group is below all later ones
abbrev pub IsRising : List Cell → Type 0
IsRising [] = Unit {0}
IsRising (c ∷ cs) = AllByRecursion (λ (later : Cell). int_lt c.group later.group ≡ true) cs × IsRising cs

-- no group is below the one before it
abbrev pub NeverFalls : List Cell → Type 0
NeverFalls cs = (k j : ℕ) (d : Cell) → j ≡ k + 1 → j < length cs → int_lt (slice_index_or cs j d).group (slice_index_or cs k d).group ≡ false

-- how many of the cells are of the group
abbrev pub times : ℤ → List Cell → ℕ
times group [] = 0
times group (c ∷ cs) = (if int_eq c.group group then 1 else 0) + times group cs

-- the sum is one of so many signed 64-bit numbers
pub record IsSound (c : Cell) : Type 0 where
  pub above : neg_ℤ (pos (c.count * 2 ^ 63)) ≤ℤ c.sum
  pub below : c.sum ≤ℤ pos (c.count * 2 ^ 63)

-- cells of some records each, no two of one group
pub record AreCells (cs : List Cell) : Type 0 where
  pub once : (group : ℤ) → times group cs ≤ 1
  pub sound : AllByRecursion IsSound cs
  pub some : AllByRecursion (λ (c : Cell). 0 < c.count) cs
