-- The text of a row, and of the rows that are due to a query.
use Rattle.std.specs.Prelude.{ℕ, ℤ, Option, Some, None, ◌==◌, if◌then◌else◌, List, [], ◌∷◌, ◌++◌, map, codes, decimal}
use Rattle.std.specs.Fmt.{signed_decimal}
use Rattle.std.specs.List.{flat_map}
use Rattle.as_words.specs.Words.{joined}
use Rattle.as_base.specs.declared.item.Given.{Given}
use Rattle.as_base.specs.declared.row.Row.{Row}
use Rattle.as_base.specs.declared.row.Row.TheVariants.{Sel, Agg, Pair}
use Rattle.views.specs.Query.{Query}
use Rattle.views.specs.View.{View}
use Rattle.views.specs.Rows.{due_rows}

-- the word of a group; none where all records are one
abbrev pub group_words : Option ℤ → List (List ℕ)
group_words None = []
group_words (Some group) = signed_decimal group ∷ []

-- the words of a record's time and values
abbrev pub side_words : Given → List (List ℕ)
side_words g = decimal g.time ∷ map signed_decimal g.v

-- The words of a row: of a selected record its time, its key and its values; of a sum or a count its window's start and
-- end, its group and its value; of a pair its window's start and end, the key, and each record's time and values.
abbrev pub row_words : Row → List (List ℕ)
row_words (Sel g) = decimal g.time ∷ signed_decimal g.key ∷ map signed_decimal g.v
row_words (Agg start end group value) = decimal start ∷ decimal end ∷ group_words group ++ signed_decimal value ∷ []
row_words (Pair start end left right) = decimal start ∷ decimal end ∷ signed_decimal left.key ∷ side_words left ++ side_words right

-- The text of a row: its words, with one space between two, and a line feed.
abbrev pub row_text : Row → List ℕ
row_text row = joined (row_words row) ++ codes "\n"

-- The text of the rows that are due to a query.
abbrev pub text : View → Query → List ℕ
text v q = flat_map row_text (due_rows v q)

-- The text that the output of query n has by a view; nothing where the view has no such query.
abbrev pub text_of : View → ℕ → List ℕ
text_of v n = flat_map (λ (q : Query). if q.n == n then text v q else []) v.queries
