-- The interval that conditions leave of each field, both ends included.
use Rattle.std.specs.Prelude.{ℕ, ◌==◌, ◌-◌, ℤ, pos, ◌+ℤ◌, ◌-ℤ◌, if◌then◌else◌, List, [], ◌∷◌}
use Rattle.std.specs.Int.{int_max, int_min}
use Rattle.std.specs.Ordering.{int_eq}
use Rattle.as_base.specs.declared.query.Bounds.{Bounds}
use Rattle.as_base.specs.Query.{lowest, highest}
use Rattle.query_text.specs.declared.ast.Op.{Op}
use Rattle.query_text.specs.declared.ast.Op.TheVariants.{Lt, Le, Eq, Ge, Gt}
use Rattle.query_text.specs.declared.ast.Cond.{Cond}

-- what `op n` raises the low end to at least
abbrev pub low_by : Op → ℤ → ℤ
low_by Lt n = if int_eq n lowest then highest else lowest
low_by Le n = lowest
low_by Eq n = n
low_by Ge n = n
low_by Gt n = if int_eq n highest then highest else n +ℤ pos 1

-- what `op n` lowers the high end to at most
abbrev pub high_by : Op → ℤ → ℤ
high_by Lt n = if int_eq n lowest then lowest else n -ℤ pos 1
high_by Le n = n
high_by Eq n = n
high_by Ge n = highest
high_by Gt n = if int_eq n highest then lowest else highest

-- the low end of a field: the greatest that a condition on it tells
abbrev pub low_of : ℕ → List Cond → ℤ
low_of field [] = lowest
low_of field (c ∷ cs) = if c.field == field then int_max (low_by c.op c.value) (low_of field cs) else low_of field cs

-- the high end of a field: the least that a condition on it tells
abbrev pub high_of : ℕ → List Cond → ℤ
high_of field [] = highest
high_of field (c ∷ cs) = if c.field == field then int_min (high_by c.op c.value) (high_of field cs) else high_of field cs

-- the intervals of the five fields
abbrev pub bounds_of : List Cond → Bounds
bounds_of cs = record {
  lo = low_of 0 cs ∷ low_of 1 cs ∷ low_of 2 cs ∷ low_of 3 cs ∷ low_of 4 cs ∷ [];
  hi = high_of 0 cs ∷ high_of 1 cs ∷ high_of 2 cs ∷ high_of 3 cs ∷ high_of 4 cs ∷ [];
}
