-- What messages make: the changes, the queries with their slots, the records, and the watermarks.
use Rattle.std.specs.Prelude.{ℕ, min, List, [], ◌∷◌, ◌++◌, get_or}
use Rattle.std.specs.List.{fold}
use Rattle.as_base.specs.declared.item.Record.{Record}
use Rattle.as_base.specs.declared.message.Change.{Change}
use Rattle.as_base.specs.declared.message.Msg.{Msg}
use Rattle.as_base.specs.declared.message.Msg.TheVariants as msg
use Rattle.as_base.specs.declared.stream.StreamId.{StreamId}
use Rattle.as_base.specs.Stream.{place_of}
use Rattle.views.specs.Query.{Query}
use Rattle.views.specs.Slots.{Holder, held, queries_of}
use Rattle.views.specs.View.{View}

-- The changes in order, the queries that they made, each with its slot, the records by line, and the watermarks of the four
-- streams in their order.
pub record Past : Type 0 where
  pub changes : List Change
  pub holders : List Holder
  pub records : List Record
  pub marks : List ℕ

-- before the first message
abbrev pub no_past : Past
no_past = record { changes = []; holders = []; records = []; marks = 0 ∷ 0 ∷ 0 ∷ 0 ∷ [] }

-- The past after a message: a record more, other watermarks, or a query opened or closed.
abbrev pub followed : Past → Msg → Past
followed p (msg.Rec r) = record { changes = p.changes; holders = p.holders; records = p.records ++ r ∷ []; marks = p.marks }
followed p (msg.Advance wm) = record { changes = p.changes; holders = p.holders; records = p.records; marks = wm }
followed p (msg.Change c) = record { changes = p.changes ++ c ∷ []; holders = held p.holders c; records = p.records; marks = p.marks }

-- what messages make, from nothing on
abbrev pub past_of : List Msg → Past
past_of ms = fold followed no_past ms

-- the same as a view, which knows no slot
abbrev pub view_of : Past → View
view_of p = record { queries = queries_of p.holders; records = p.records; marks = p.marks }

-- the watermark of the stream
abbrev pub mark_of : List ℕ → StreamId → ℕ
mark_of marks s = get_or marks (place_of s) 0

-- the least watermark of the streams that the query reads
abbrev pub mark_for : List ℕ → Query → ℕ
mark_for marks q = min (mark_of marks q.plan.left) (mark_of marks q.plan.right)
