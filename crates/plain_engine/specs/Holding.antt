-- What is held of a query, as records, ends and watermarks come.
use Rattle.std.specs.Prelude.{ℕ, ◌^◌, ◌==◌, ◌&&◌, nat_lt, nat_le, min, if◌then◌else◌, Bool, List, [], ◌∷◌, get_or}
use Rattle.std.specs.List.{filter}
use Rattle.as_base.specs.declared.item.Given.{Given}
use Rattle.as_base.specs.declared.answer.Piece.{Piece}
use Rattle.as_base.specs.declared.query.Bounds.{Bounds}
use Rattle.as_base.specs.declared.query.Plan.{Plan}
use Rattle.as_base.specs.declared.stream.StreamId.{StreamId}
use Rattle.as_base.specs.Query.{holds_all}
use Rattle.as_base.specs.Stream.{place_of}
use Rattle.as_base.specs.Windows.{first_window}
use Rattle.plain_engine.specs.Held.{Held, is_needed, is_join}
use Rattle.plain_engine.specs.Walk.{put_by_time, rows_between, text_of_rows}

-- the least watermark of the streams that the plan reads
abbrev pub mark_by : List ℕ → Plan → ℕ
mark_by marks p = min (get_or marks (place_of p.left) 0) (get_or marks (place_of p.right) 0)

-- what is held of a query that is opened at a time
abbrev pub newly_held : ℕ → Plan → ℕ → Held
newly_held n plan at = record { n = n; plan = plan; from = at; to = 2 ^ 62; lefts = []; rights = [] }

-- what is held of the query, with these records of its left stream and of its right one
abbrev pub with_records : Held → List Given → List Given → Held
with_records h lefts rights = record { n = h.n; plan = h.plan; from = h.from; to = h.to; lefts = lefts; rights = rights }

-- the query wants the record of a stream that it reads within these bounds: it lives at its time, and they hold it
abbrev pub wants_on : Held → StreamId → Bounds → Given → Bool
wants_on h s bounds g = place_of g.stream == place_of s && nat_le h.from g.time && nat_lt g.time h.to && holds_all bounds g

-- the query wants the record of its left stream
abbrev pub wants_left : Held → Given → Bool
wants_left h g = wants_on h h.plan.left h.plan.left_bounds g

-- the query is a join, and wants the record of its right stream
abbrev pub wants_right : Held → Given → Bool
wants_right h g = is_join h.plan.kind && wants_on h h.plan.right h.plan.right_bounds g

-- the query, which takes a record that it wants
abbrev pub with_given : Given → Held → Held
with_given g h =
    if wants_left h g then with_records h (put_by_time g h.lefts) h.rights
    else (if wants_right h g then with_records h h.lefts (put_by_time g h.rights) else h)

-- the query, whose life ends at the time, if not before, if it has this number
abbrev pub ended : ℕ → ℕ → Held → Held
ended n at h =
    if h.n == n then record { n = h.n; plan = h.plan; from = h.from; to = min h.to at; lefts = h.lefts; rights = h.rights } else h

-- by these watermarks the query may still get rows
abbrev pub still_awaits : List ℕ → Held → Bool
still_awaits marks h = nat_lt (mark_by marks h.plan) h.to

-- the first window that the mark has not passed; one beyond all where it has reached the end of the query's life
abbrev pub first_left : Held → ℕ → ℕ
first_left h mark = if nat_le h.to mark then 2 ^ 62 else first_window h.plan.win mark

-- the text of the windows that the later mark passes and the first one, which is before the end, has not
abbrev pub due_text : ℕ → ℕ → Held → List ℕ
due_text mark later h =
    if nat_le h.to mark then [] else text_of_rows (rows_between h.plan (first_left h mark) (first_left h later) h.lefts h.rights)

-- the query without the records that no window wants after those that the mark has passed
abbrev pub forgotten : ℕ → Held → Held
forgotten mark h =
    if nat_le h.to mark then h
    else with_records h (filter (is_needed h.plan.win mark) h.lefts) (filter (is_needed h.plan.win mark) h.rights)

-- a piece of these bytes, if there are any
abbrev pub piece_of : ℕ → List ℕ → List Piece
piece_of n [] = []
piece_of n (b ∷ bytes) = (record { n = n; bytes = b ∷ bytes }) ∷ []

-- the piece of the rows that become due to the query where these watermarks become those
abbrev pub piece_due : List ℕ → List ℕ → Held → List Piece
piece_due marks later h = piece_of h.n (due_text (mark_by marks h.plan) (mark_by later h.plan) h)
