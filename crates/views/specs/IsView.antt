-- What holds of every view that messages make.
use Rattle.std.specs.Prelude.{◌≡◌, ◌^◌, ◌<◌, ◌≤◌, [], ◌∷◌, map, length, IsTrue}
use Rattle.std.specs.List.{filter, range_with_len, AllByRecursion}
use Rattle.as_base.specs.declared.item.Record.{Record}
use Rattle.as_base.specs.declared.stream.StreamId.{StreamId}
use Rattle.as_base.specs.Canonical.{IsCanonical, FitsPlan}
use Rattle.views.specs.Query.{Query}
use Rattle.views.specs.View.{View, watermark_of, is_of}
use Rattle.views.specs.Order.{InOrder}

-- The query's life lies within time, and lasts on while it lives. Its plan is in its one form and in range.
pub record IsQuery (q : Query) : Type 0 where
  pub begins : q.from ≤ 2 ^ 62
  pub ends : q.to ≤ 2 ^ 62
  pub lasts : IsTrue q.live → q.to ≡ 2 ^ 62
  pub canonical : IsCanonical q.plan
  pub fits : FitsPlan q.plan

-- The watermarks are four, none above 2^62; the queries are numbered from 1 on; the records have times, and those of one
-- stream stand in order.
pub record IsView (v : View) : Type 0 where
  pub four : length v.marks ≡ 4
  pub most : (s : StreamId) → watermark_of v s ≤ 2 ^ 62
  pub numbered : map (λ (q : Query). q.n) v.queries ≡ range_with_len 1 (length v.queries)
  pub made : AllByRecursion IsQuery v.queries
  pub timed : AllByRecursion (λ (r : Record). r.given.time < 2 ^ 62) v.records
  pub ordered : (s : StreamId) → InOrder (filter (is_of s) v.records)

-- the view before the first message
abbrev pub first_view : View
first_view = record { queries = []; records = []; marks = 0 ∷ 0 ∷ 0 ∷ 0 ∷ [] }
