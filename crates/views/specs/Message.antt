-- What a message makes of a view, and which messages may follow one.
use Rattle.std.specs.Prelude.{ℕ, ◌≡◌, ◌^◌, ◌<◌, ◌≤◌, ◌+◌, List, [], ◌∷◌, ◌++◌, map, length, get_or, IsTrue}
use Rattle.std.specs.List.{list_any, AllByRecursion}
use Rattle.as_base.specs.declared.item.Record.{Record}
use Rattle.as_base.specs.declared.message.Change.{Change}
use Rattle.as_base.specs.declared.message.Change.TheVariants.{Opened, Closed}
use Rattle.as_base.specs.declared.message.Msg.{Msg}
use Rattle.as_base.specs.declared.message.Msg.TheVariants as msg
use Rattle.as_base.specs.declared.stream.StreamId.{StreamId}
use Rattle.as_base.specs.Stream.{place_of}
use Rattle.as_base.specs.Canonical.{IsCanonical, FitsPlan}
use Rattle.as_base.specs.declared.query.Plan.{Plan}
use Rattle.views.specs.Query.{Query, opened, is_live, closed}
use Rattle.views.specs.View.{View, watermark_of}

-- the queries after a change
abbrev pub changed : List Query → Change → List Query
changed queries (Opened n slot at plan) = queries ++ opened n plan at ∷ []
changed queries (Closed n slot at) = map (closed n at) queries

-- The view after a message: a record more, other watermarks, or a query opened or closed.
abbrev pub after : View → Msg → View
after v (msg.Rec r) = record { queries = v.queries; records = v.records ++ r ∷ []; marks = v.marks }
after v (msg.Advance wm) = record { queries = v.queries; records = v.records; marks = wm }
after v (msg.Change change) = record { queries = changed v.queries change; records = v.records; marks = v.marks }

-- The record comes after all others by line, and after those of its stream by time, from its stream's watermark on.
pub record RecordFollows (v : View) (r : Record) : Type 0 where
  pub time : r.given.time < 2 ^ 62
  pub mark : watermark_of v r.given.stream ≤ r.given.time
  pub line : AllByRecursion (λ (s : Record). s.seq < r.seq) v.records
  pub stream : AllByRecursion (λ (s : Record). place_of s.given.stream ≡ place_of r.given.stream → s.given.time ≤ r.given.time) v.records

-- The watermarks are four, none falls, and none is above 2^62.
pub record MarksFollow (v : View) (marks : List ℕ) : Type 0 where
  pub four : length marks ≡ 4
  pub up : (s : StreamId) → watermark_of v s ≤ get_or marks (place_of s) 0
  pub most : (s : StreamId) → get_or marks (place_of s) 0 ≤ 2 ^ 62

-- A change comes after every record, and after every watermark but those of streams without one and of ended streams.
pub record ChangeFollows (v : View) (at : ℕ) : Type 0 where
  pub most : at ≤ 2 ^ 62
  pub marks : (s : StreamId) → 0 < watermark_of v s → watermark_of v s < 2 ^ 62 → watermark_of v s < at
  pub records : AllByRecursion (λ (r : Record). r.given.time < at) v.records

-- A plan that may be opened: it is in its one form and in range.
pub record IsOpenable (p : Plan) : Type 0 where
  pub canonical : IsCanonical p
  pub fits : FitsPlan p

-- The message may follow the view. A query that is opened has the next number; one that is closed lives.
abbrev pub Follows : View → Msg → Type 0
Follows v (msg.Rec r) = RecordFollows v r
Follows v (msg.Advance wm) = MarksFollow v wm
Follows v (msg.Change (Opened n slot at plan)) = ChangeFollows v at × (n ≡ length v.queries + 1) × IsOpenable plan
Follows v (msg.Change (Closed n slot at)) = ChangeFollows v at × IsTrue (list_any (is_live n) v.queries)
