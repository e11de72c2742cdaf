-- Queries as a view has them, made and closed.
use Rattle.std.specs.Prelude.{ℕ, ◌^◌, ◌==◌, ◌&&◌, Bool, true, false, if◌then◌else◌}
use Rattle.as_base.specs.declared.query.Plan.{Plan}

-- The query's number, its plan, its life from a time up to but not including another, and whether it lives.
pub record Query : Type 0 where
  pub n : ℕ
  pub plan : Plan
  pub from : ℕ
  pub to : ℕ
  pub live : Bool

-- a query that is made at this time: it lives on, up to 2^62, the tick after all times
abbrev pub opened : ℕ → Plan → ℕ → Query
opened n plan at = record { n = n; plan = plan; from = at; to = 2 ^ 62; live = true }

-- the query has this number and lives
abbrev pub is_live : ℕ → Query → Bool
is_live n q = q.n == n && q.live

-- the query, whose life ends at the time if it lives and has this number
abbrev pub closed : ℕ → ℕ → Query → Query
closed n at q = if is_live n q then record { n = q.n; plan = q.plan; from = q.from; to = at; live = false } else q
