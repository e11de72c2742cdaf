-- The rows of a query's windows by a view, and those that are due, before they are text.
use Rattle.std.specs.Prelude.{ℕ, ℤ, ◌==◌, ◌&&◌, if◌then◌else◌, Bool, List, [], map}
use Rattle.std.specs.List.{flat_map, list_any}
use Rattle.as_base.specs.declared.fragment.Couple.{Couple}
use Rattle.as_base.specs.declared.item.Given.{Given}
use Rattle.as_base.specs.declared.query.Kind.{Kind}
use Rattle.as_base.specs.declared.query.Kind.TheVariants.{Select, Sum, Count, Join}
use Rattle.as_base.specs.declared.query.Plan.{Plan}
use Rattle.as_base.specs.declared.row.Row.{Row}
use Rattle.as_base.specs.declared.row.Row.TheVariants.{Sel, Agg, Pair}
use Rattle.as_base.specs.Windows.{start_of, end_of}
use Rattle.views.specs.Groups.{groups, of_group, group_told, value_of}
use Rattle.views.specs.Query.{Query}
use Rattle.views.specs.View.{View}
use Rattle.views.specs.Pairs.{pairs}
use Rattle.views.specs.Passed.{given_to, within, is_passed, passed_windows}

-- the row of a group in window k
abbrev pub group_row : Plan → ℕ → List Given → ℤ → Row
group_row p k gs z = Agg (start_of p.win k) (end_of p.win k) (group_told p.group z) (value_of p.kind (of_group p.group z gs))

-- the rows of the groups in window k, by rising group
abbrev pub group_rows : Plan → ℕ → List Given → List Row
group_rows p k gs = map (group_row p k gs) (groups p.group gs)

-- the row of a pair in window k
abbrev pub pair_row : Plan → ℕ → Couple → Row
pair_row p k c = Pair (start_of p.win k) (end_of p.win k) c.left c.right

-- The rows that a query of this kind makes of its records in window k, those of its left stream and of its right one: a
-- selection, whose windows are of one tick each, has a row for each record, in the order of their lines; a sum or a count
-- has one for each group, by rising group; a join has one for each pair of a left and a right record with equal keys, by
-- the numbers of the rows.
abbrev pub rows_as : Kind → Plan → ℕ → List Given → List Given → List Row
rows_as Select p k lefts rights = map (λ g. Sel g) lefts
rows_as (Sum c) p k lefts rights = group_rows p k lefts
rows_as Count p k lefts rights = group_rows p k lefts
rows_as Join p k lefts rights = map (pair_row p k) (pairs lefts rights)

-- The rows that a plan makes in window k of records of its left stream and of its right one.
abbrev pub rows_with : Plan → List Given → List Given → ℕ → List Row
rows_with p lefts rights k = rows_as p.kind p k (within p.win k lefts) (within p.win k rights)

-- The rows of the query's window k.
abbrev pub rows : View → Query → ℕ → List Row
rows v q k = rows_with q.plan (given_to v q q.plan.left) (given_to v q q.plan.right) k

-- The rows that are due to the query: those of the windows that its watermark has passed, window by window.
abbrev pub due_rows : View → Query → List Row
due_rows v q = flat_map (rows v q) (passed_windows v q)

-- The rows that are due to query n; none where the view has no such query.
abbrev pub due_to : View → ℕ → List Row
due_to v n = flat_map (λ (q : Query). if q.n == n then due_rows v q else []) v.queries

-- The view has query n, whose watermark has passed window k.
abbrev pub has_passed : View → ℕ → ℕ → Bool
has_passed v n k = list_any (λ (q : Query). q.n == n && is_passed v q k) v.queries

-- The rows of window k of query n; none where the view has no such query.
abbrev pub rows_of : View → ℕ → ℕ → List Row
rows_of v n k = flat_map (λ (q : Query). if q.n == n then rows v q k else []) v.queries
