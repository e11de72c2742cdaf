-- What a store holds of a query: its life, and those of its records that some window still wants.
use Rattle.std.specs.Prelude.{ℕ, nat_lt, nat_le, if◌then◌else◌, Bool, true, false, List, []}
use Rattle.std.specs.List.{filter}
use Rattle.as_base.specs.declared.item.Given.{Given}
use Rattle.as_base.specs.declared.query.Kind.{Kind}
use Rattle.as_base.specs.declared.query.Plan.{Plan}
use Rattle.as_base.specs.declared.windows.WinSpec.{WinSpec}
use Rattle.as_base.specs.Windows.{first_window, last_window}
use Rattle.views.specs.Query.{Query}
use Rattle.views.specs.View.{View, query_watermark}
use Rattle.views.specs.Passed.{given_to}

-- A query's number, its plan, its life from a time up to but not including another, and records: those of its left stream,
-- and of a join those of its right one.
pub record Held : Type 0 where
  pub n : ℕ
  pub plan : Plan
  pub from : ℕ
  pub to : ℕ
  pub lefts : List Given
  pub rights : List Given

-- the query may still get rows: its watermark has not reached its end
abbrev pub awaits : View → Query → Bool
awaits v q = nat_lt (query_watermark v q) q.to

-- some window after those that the watermark has passed holds the record
abbrev pub is_needed : WinSpec → ℕ → Given → Bool
is_needed w mark g = nat_le (first_window w mark) (last_window w g.time)

-- queries of this kind read a right stream beside the left one
abbrev pub is_join : Kind → Bool
is_join Kind.Join = true
is_join _ = false

-- the records of a join's right stream that belong to it; none of another query
abbrev pub given_on_right : View → Query → List Given
given_on_right v q = if is_join q.plan.kind then given_to v q q.plan.right else []

-- What is held of a query: of the records that belong to it, those that a window still wants.
abbrev pub held_of : View → Query → Held
held_of v q = record {
  n = q.n;
  plan = q.plan;
  from = q.from;
  to = q.to;
  lefts = filter (is_needed q.plan.win (query_watermark v q)) (given_to v q q.plan.left);
  rights = filter (is_needed q.plan.win (query_watermark v q)) (given_on_right v q);
}
