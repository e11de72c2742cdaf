-- What conditions say of a record.
use Rattle.std.specs.Prelude.{ℕ, Bool, ℤ, int_lt, int_le, List, ◌∷◌}
use Rattle.std.specs.List.{AllByRecursion, list_all}
use Rattle.std.specs.Ordering.{int_eq}
use Rattle.as_base.specs.Query.{at}
use Rattle.as_base.specs.declared.item.Given.{Given}
use Rattle.query_text.specs.declared.ast.Op.{Op}
use Rattle.query_text.specs.declared.ast.Op.TheVariants.{Lt, Le, Eq, Ge, Gt}
use Rattle.query_text.specs.declared.ast.Cond.{Cond}
use Rattle.as_words.specs.Number.{IsSigned}

-- `z op n` holds
abbrev pub compares : ℤ → Op → ℤ → Bool
compares z Lt n = int_lt z n
compares z Le n = int_le z n
compares z Eq n = int_eq z n
compares z Ge n = int_le n z
compares z Gt n = int_lt n z

-- the number of a field: 0 is the key, 1 to 4 are the values
abbrev pub field_value : Given → ℕ → ℤ
field_value g f = at (g.key ∷ g.v) f

-- the record meets each condition
abbrev pub meets_all : List Cond → Given → Bool
meets_all cs g = list_all (λ c. compares (field_value g c.field) c.op c.value) cs

-- the key and the values are from -2^63 to 2^63 - 1
abbrev pub FitsGiven : Given → Type 0
FitsGiven g = AllByRecursion IsSigned (g.key ∷ g.v)
