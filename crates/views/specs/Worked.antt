-- Worked windows and rows, evaluated on the definitions alone.
use Rattle.std.specs.Prelude.{ℕ, ℤ, true, false, pos, negsuc, ◌≡◌, ◌-◌, ◌^◌, refl, Some, None, List, [], ◌∷◌}
use Rattle.as_base.specs.declared.item.Given.{Given}
use Rattle.as_base.specs.declared.item.Record.{Record}
use Rattle.as_base.specs.declared.query.Col.TheVariants.{V1, V2}
use Rattle.as_base.specs.declared.query.Group.{Group}
use Rattle.as_base.specs.declared.query.Group.TheVariants as group
use Rattle.as_base.specs.declared.query.Kind.{Kind}
use Rattle.as_base.specs.declared.query.Kind.TheVariants.{Select, Sum, Count, Join}
use Rattle.as_base.specs.declared.row.Row.{Row}
use Rattle.as_base.specs.declared.row.Row.TheVariants.{Sel, Agg, Pair}
use Rattle.as_base.specs.declared.stream.StreamId.TheVariants.{A, B}
use Rattle.as_base.specs.declared.windows.WinSpec.{WinSpec}
use Rattle.as_base.specs.Query.{unlimited}
use Rattle.as_base.specs.Windows.{one_tick}
use Rattle.views.specs.Query.{Query}
use Rattle.views.specs.View.{View}
use Rattle.views.specs.Passed.{windows_of, passed_windows}
use Rattle.views.specs.Rows.{due_rows, due_to}
use Rattle.views.specs.Alike.{AreAlike}

-- a query of stream a with these windows that lives from 0 up to a time
abbrev query_until : ℕ → Kind → Group → WinSpec → Query
query_until to kind by win = record {
  n = 1;
  plan = record { kind = kind; group = by; left = A; right = A; left_bounds = unlimited; right_bounds = unlimited; win = win };
  from = 0;
  to = to;
  live = true;
}

abbrev query_of : Kind → Group → WinSpec → Query
query_of = query_until (2 ^ 62)

abbrev given : ℕ → ℤ → ℤ → ℤ → Given
given time key v1 v2 = record { stream = A; time = time; key = key; v = v1 ∷ v2 ∷ pos 0 ∷ pos 0 ∷ [] }

-- a view of one query and these records of stream a, whose watermark is the mark
abbrev view_of : Query → List Record → ℕ → View
view_of q records mark = record { queries = q ∷ []; records = records; marks = mark ∷ 0 ∷ 0 ∷ 0 ∷ [] }

abbrev two_records : List Record
two_records = (record { seq = 2; given = given 7 (pos 1) (pos 3) (pos 0) }) ∷ (record { seq = 3; given = given 12 (pos 1) (pos 4) (pos 0) }) ∷ []

abbrev sums_by_key : Query
sums_by_key = query_of (Sum V1) group.Key (record { size = 10; slide = 5 })

pub sliding_windows : windows_of (view_of sums_by_key two_records 20) sums_by_key ≡ 0 ∷ 1 ∷ 2 ∷ []
sliding_windows = refl

pub sliding_sums : due_rows (view_of sums_by_key two_records 20) sums_by_key
    ≡ Agg 0 10 (Some (pos 1)) (pos 3) ∷ Agg 5 15 (Some (pos 1)) (pos 7) ∷ Agg 10 20 (Some (pos 1)) (pos 4) ∷ []
sliding_sums = refl

pub one_tick_early : passed_windows (view_of sums_by_key two_records 19) sums_by_key ≡ 0 ∷ 1 ∷ []
one_tick_early = refl

-- a window that the query's end cuts is passed where the watermark reaches that end, and has its uncut edges
abbrev counts_until_13 : Query
counts_until_13 = query_until 13 Count group.All (record { size = 100; slide = 100 })

pub cut_window : due_rows (view_of counts_until_13 two_records 13) counts_until_13 ≡ Agg 0 100 None (pos 2) ∷ []
cut_window = refl

pub cut_window_early : due_rows (view_of counts_until_13 two_records 12) counts_until_13 ≡ []
cut_window_early = refl

-- sums go beyond 64 bits, and groups rise with their sign
abbrev wide_records : List Record
wide_records = (record { seq = 2; given = given 1 (pos 3) (pos (2 ^ 63 - 1)) (pos 5) }) ∷ (record { seq = 3; given = given 2 (pos 4) (pos (2 ^ 63 - 1)) (pos 5) })
    ∷ (record { seq = 4; given = given 2 (pos 4) (pos 1) (negsuc 0) }) ∷ []

abbrev sums_by_column : Query
sums_by_column = query_of (Sum V1) (group.Col V2) (record { size = 10; slide = 10 })

pub wide_sums : due_rows (view_of sums_by_column wide_records 10) sums_by_column
    ≡ Agg 0 10 (Some (negsuc 0)) (pos 1) ∷ Agg 0 10 (Some (pos 5)) (pos 18446744073709551614) ∷ []
wide_sums = refl

-- a selection has windows of one tick, and a row for each record
abbrev selection : Query
selection = query_of Select group.All one_tick

pub selected : due_rows (view_of selection two_records 12) selection ≡ Sel (given 7 (pos 1) (pos 3) (pos 0)) ∷ []
selected = refl

-- the last of all times
abbrev late_records : List Record
late_records = (record { seq = 2; given = given (2 ^ 62 - 1) (pos 1) (pos 0) (pos 0) }) ∷ []

abbrev counts_of_ten : Query
counts_of_ten = query_of Count group.All (record { size = 10; slide = 10 })

pub last_window_of_all : due_rows (view_of counts_of_ten late_records (2 ^ 62)) counts_of_ten ≡ Agg 4611686018427387900 4611686018427387910 None (pos 1) ∷ []
last_window_of_all = refl

-- a join of streams a and b over windows of 10 ticks: two equal left records and two different right ones, one right record
-- of another key, and one in a later window
abbrev joined : Query
joined = record {
  n = 1;
  plan = record { kind = Join; group = group.All; left = A; right = B; left_bounds = unlimited; right_bounds = unlimited; win = record { size = 10; slide = 10 } };
  from = 0;
  to = 2 ^ 62;
  live = true;
}

abbrev given_on_b : ℕ → ℤ → ℤ → Given
given_on_b time key v1 = record { stream = B; time = time; key = key; v = v1 ∷ pos 0 ∷ pos 0 ∷ pos 0 ∷ [] }

abbrev left_given : Given
left_given = given 1 (pos 7) (pos 3) (pos 0)

abbrev joined_records : List Record
joined_records = (record { seq = 2; given = left_given }) ∷ (record { seq = 3; given = left_given })
    ∷ (record { seq = 4; given = given_on_b 8 (pos 7) (pos 9) }) ∷ (record { seq = 5; given = given_on_b 8 (pos 6) (pos 0) })
    ∷ (record { seq = 6; given = given_on_b 8 (pos 7) (pos 5) }) ∷ (record { seq = 7; given = given_on_b 12 (pos 7) (pos 5) }) ∷ []

abbrev joined_at : ℕ → ℕ → View
joined_at a b = record { queries = joined ∷ []; records = joined_records; marks = a ∷ b ∷ 0 ∷ 0 ∷ [] }

abbrev row_with : ℤ → Row
row_with v1 = Pair 0 10 left_given (given_on_b 8 (pos 7) v1)

pub pairs_by_numbers : due_rows (joined_at 10 10) joined ≡ row_with (pos 5) ∷ row_with (pos 5) ∷ row_with (pos 9) ∷ row_with (pos 9) ∷ []
pairs_by_numbers = refl

-- the lower watermark decides
pub one_stream_behind : due_rows (joined_at 20 9) joined ≡ []
one_stream_behind = refl

-- in the next window no left record lies
pub one_side_alone : due_rows (joined_at 20 20) joined ≡ due_rows (joined_at 10 10) joined
one_side_alone = refl

-- Two queries with one plan and one life: the second is query 2 of a view that has another query before it, which was
-- closed, records of another stream among those of the first, and other lines. They are alike, and have the same rows.
abbrev among_others : View
among_others = record {
  queries = (record { n = 1; plan = counts_of_ten.plan; from = 0; to = 3; live = false })
      ∷ (record { n = 2; plan = sums_by_key.plan; from = 0; to = 2 ^ 62; live = true }) ∷ [];
  records = (record { seq = 4; given = given_on_b 6 (pos 1) (pos 8) }) ∷ (record { seq = 5; given = given 7 (pos 1) (pos 3) (pos 0) })
      ∷ (record { seq = 9; given = given_on_b 9 (pos 1) (pos 8) }) ∷ (record { seq = 11; given = given 12 (pos 1) (pos 4) (pos 0) }) ∷ [];
  marks = 20 ∷ 9 ∷ 0 ∷ 0 ∷ [];
}

pub alike_among_others : AreAlike (view_of sums_by_key two_records 20) 1 among_others 2
alike_among_others = refl

pub rows_among_others : due_to among_others 2 ≡ due_to (view_of sums_by_key two_records 20) 1
rows_among_others = refl
