-- Worked texts of rows, evaluated on the definitions alone.
use Rattle.std.specs.Prelude.{ℕ, ℤ, pos, negsuc, ◌≡◌, refl, Some, None, [], ◌∷◌, codes}
use Rattle.std.specs.Fmt.{digits}
use Rattle.as_base.specs.declared.item.Given.{Given}
use Rattle.as_base.specs.declared.row.Row.TheVariants.{Sel, Agg, Pair}
use Rattle.as_base.specs.declared.stream.StreamId.{StreamId}
use Rattle.as_base.specs.declared.stream.StreamId.TheVariants.{A, B}
use Rattle.row_text.specs.RowText.{row_text}

abbrev given : StreamId → ℕ → ℤ → ℤ → Given
given stream time v1 v4 = record { stream = stream; time = time; key = pos 7; v = v1 ∷ pos 0 ∷ pos 0 ∷ v4 ∷ [] }

pub count_of_all : row_text (Agg 0 100 None (pos 1)) ≡ codes "0 100 1\n"
unfolding digits
count_of_all = refl

-- a sum beyond 64 bits
pub sum_of_a_group : row_text (Agg 0 10 (Some (pos 5)) (pos 18446744073709551614)) ≡ codes "0 10 5 18446744073709551614\n"
unfolding digits
sum_of_a_group = refl

pub selected_record : row_text (Sel (given A 5 (pos 10) (negsuc 4))) ≡ codes "5 7 10 0 0 -5\n"
unfolding digits
selected_record = refl

-- the key stands once
pub pair_of_records : row_text (Pair 0 10 (given A 1 (pos 0) (pos 0)) (given B 2 (pos 3) (negsuc 0))) ≡ codes "0 10 7 1 0 0 0 0 2 3 0 0 -1\n"
unfolding digits
pair_of_records = refl
