-- What the rows of a query come from, and that a query of one view is like a query of another.
use Rattle.std.specs.Prelude.{ℕ, ◌≡◌, ◌==◌, List, map}
use Rattle.std.specs.List.{filter}
use Rattle.as_base.specs.declared.item.Given.{Given}
use Rattle.as_base.specs.declared.query.Plan.{Plan}
use Rattle.views.specs.Query.{Query}
use Rattle.views.specs.View.{View, query_watermark}
use Rattle.views.specs.Passed.{given_to}

-- A query's plan, its life from a time up to but not including another, its records of its left stream and of its right
-- one as they were given, and its watermark.
pub record Share : Type 0 where
  pub plan : Plan
  pub from : ℕ
  pub to : ℕ
  pub lefts : List Given
  pub rights : List Given
  pub mark : ℕ

-- what a query has of a view: neither its number, nor any other query, nor the lines of its records
abbrev pub share_of : View → Query → Share
share_of v q = record {
  plan = q.plan;
  from = q.from;
  to = q.to;
  lefts = given_to v q q.plan.left;
  rights = given_to v q q.plan.right;
  mark = query_watermark v q;
}

-- what query n has of a view; nothing where the view has no such query
abbrev pub share_of_number : View → ℕ → List Share
share_of_number v n = map (share_of v) (filter (λ (q : Query). q.n == n) v.queries)

-- Query n of a view and query m of another are alike: each has of its view what the other has.
abbrev pub AreAlike : View → ℕ → View → ℕ → Type 0
AreAlike v n w m = share_of_number v n ≡ share_of_number w m
