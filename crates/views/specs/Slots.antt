-- Which query has which slot at which time, and where the slices of a stream begin.
use Rattle.std.specs.Prelude.{ℕ, ◌==◌, ◌&&◌, nat_lt, nat_le, min, max, if◌then◌else◌, Bool, true, false, Option, Some, None}
use Rattle.std.specs.Prelude.{List, [], ◌∷◌, ◌++◌, map}
use Rattle.std.specs.List.{find, fold, range_with_len}
use Rattle.as_base.specs.declared.item.Record.{Record}
use Rattle.as_base.specs.declared.message.Change.{Change}
use Rattle.as_base.specs.declared.message.Change.TheVariants.{Opened, Closed}
use Rattle.as_base.specs.declared.query.Kind.{Kind}
use Rattle.as_base.specs.declared.query.Kind.TheVariants.{Select, Sum, Count, Join}
use Rattle.as_base.specs.declared.query.Plan.{Plan}
use Rattle.as_base.specs.declared.stream.StreamId.{StreamId}
use Rattle.as_base.specs.Windows.{start_of, end_of, last_edge}
use Rattle.views.specs.Query.{Query, opened, closed}
use Rattle.views.specs.View.{reads, is_mine}

-- A query and its slot.
pub record Holder : Type 0 where
  pub query : Query
  pub slot : ℕ

-- a query that is made at this time, and its slot
abbrev pub opened_holder : ℕ → ℕ → ℕ → Plan → Holder
opened_holder n slot at plan = record { query = opened n plan at; slot = slot }

-- the holder, whose query's life ends at the time if it lives and has this number
abbrev pub closed_holder : ℕ → ℕ → Holder → Holder
closed_holder n at h = record { query = closed n at h.query; slot = h.slot }

-- the holders after a change
abbrev pub held : List Holder → Change → List Holder
held hs (Opened n slot at plan) = hs ++ opened_holder n slot at plan ∷ []
held hs (Closed n slot at) = map (closed_holder n at) hs

-- the holders that changes make, from none on
abbrev pub holders_of : List Change → List Holder
holders_of changes = fold held [] changes

-- their queries
abbrev pub queries_of : List Holder → List Query
queries_of hs = map (λ (h : Holder). h.query) hs

-- ---- owners

-- the time lies in the query's life
abbrev pub lives_at : Query → ℕ → Bool
lives_at q t = nat_le q.from t && nat_lt t q.to

-- the holder has the slot at the time
abbrev pub has_slot : ℕ → ℕ → Holder → Bool
has_slot t slot h = h.slot == slot && lives_at h.query t

-- The owner of a slot at a time: of the holders that have it then, the first.
abbrev pub owner : List Holder → ℕ → ℕ → Option Holder
owner hs t slot = find (has_slot t slot) hs

-- the record belongs to the owner's query
abbrev pub has_mine : Record → Option Holder → Bool
has_mine r None = false
has_mine r (Some h) = is_mine h.query r.given.stream r

-- The set of a record: for each of the 512 slots, whether the record belongs to its owner at the record's time.
abbrev pub set_of : List Holder → Record → List Bool
set_of hs r = map (λ slot. has_mine r (owner hs r.given.time slot)) (range_with_len 0 512)

-- ---- cuts

-- queries of this kind have windows: all but selections, which give each record a row of its own
abbrev pub has_windows : Kind → Bool
has_windows Select = false
has_windows (Sum c) = true
has_windows Count = true
has_windows Join = true

abbrev pub is_windowed : Plan → Bool
is_windowed plan = has_windows plan.kind

-- the time, where it is at most t; else 0
abbrev pub up_to : ℕ → ℕ → ℕ
up_to t time = if nat_le time t then time else 0

-- the last edge at or before t of the windows of a query that lives at t and reads the stream; else 0
abbrev pub edge_by : StreamId → ℕ → Query → ℕ
edge_by s t q = if lives_at q t && is_windowed q.plan && reads q.plan s then last_edge q.plan.win t else 0

-- the greatest of the times at most t at which the query began or ended, and of its last edge
abbrev pub cut_by : StreamId → ℕ → Query → ℕ
cut_by s t q = max (up_to t q.from) (max (up_to t q.to) (edge_by s t q))

-- Where the slice of the stream that holds time t begins: the greatest of 0, of the times at most t at which queries began
-- or ended, and of the last edge at or before t of each query that has windows, lives at t and reads the stream.
abbrev pub cut : List Holder → StreamId → ℕ → ℕ
cut [] s t = 0
cut (h ∷ hs) s t = max (cut_by s t h.query) (cut hs s t)

-- where the slice of the record begins
abbrev pub cut_of : List Holder → Record → ℕ
cut_of hs r = cut hs r.given.stream r.given.time

-- Window k of the query, from its start or the query's beginning up to its end or the query's end, holds the time.
abbrev pub holds_in_life : Query → ℕ → ℕ → Bool
holds_in_life q k t = nat_le (max (start_of q.plan.win k) q.from) t && nat_lt t (min (end_of q.plan.win k) q.to)
