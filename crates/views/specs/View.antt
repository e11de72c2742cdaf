-- Views, and what a query has of one: the streams that it reads, its records, and its watermark.
use Rattle.std.specs.Prelude.{ℕ, ◌==◌, ◌&&◌, ◌||◌, nat_lt, nat_le, min, if◌then◌else◌, Bool, List, get_or}
use Rattle.std.specs.List.{filter}
use Rattle.as_base.specs.declared.stream.StreamId.{StreamId}
use Rattle.as_base.specs.declared.item.Record.{Record}
use Rattle.as_base.specs.declared.query.Bounds.{Bounds}
use Rattle.as_base.specs.declared.query.Plan.{Plan}
use Rattle.as_base.specs.Stream.{place_of}
use Rattle.as_base.specs.Query.{holds_all}
use Rattle.views.specs.Query.{Query}

-- The queries by number, the accepted records by line, and the watermarks of the four streams in their order.
pub record View : Type 0 where
  pub queries : List Query
  pub records : List Record
  pub marks : List ℕ

-- the watermark of the stream
abbrev pub watermark_of : View → StreamId → ℕ
watermark_of v s = get_or v.marks (place_of s) 0

-- the record is of the stream
abbrev pub is_of : StreamId → Record → Bool
is_of s r = place_of r.given.stream == place_of s

-- the plan reads the stream, on its left or its right
abbrev pub reads : Plan → StreamId → Bool
reads plan s = place_of plan.left == place_of s || place_of plan.right == place_of s

-- the bounds that the plan sets for a stream that it reads
abbrev pub bounds_for : Plan → StreamId → Bounds
bounds_for plan s = if place_of plan.left == place_of s then plan.left_bounds else plan.right_bounds

-- the query reads the stream, the record is of it, its time lies in the query's life, and it is within the query's bounds
abbrev pub is_mine : Query → StreamId → Record → Bool
is_mine q s r =
    reads q.plan s && place_of r.given.stream == place_of s && nat_le q.from r.given.time && nat_lt r.given.time q.to
    && holds_all (bounds_for q.plan s) r.given

-- the records of the stream that belong to the query
abbrev pub mine : View → Query → StreamId → List Record
mine v q s = filter (is_mine q s) v.records

-- the least watermark of the streams that the query reads
abbrev pub query_watermark : View → Query → ℕ
query_watermark v q = min (watermark_of v q.plan.left) (watermark_of v q.plan.right)
