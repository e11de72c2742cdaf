-- Lines computed from a number: what each says, and its spelling.
use Rattle.std.specs.Prelude.{ℕ, ℤ, pos, ◌+◌, ◌-◌, ◌*◌, ◌/◌, ◌%◌, ◌-ℤ◌, ◌==◌, ◌&&◌, nat_le, if◌then◌else◌, List, [], ◌∷◌, codes}
use Rattle.std.specs.List.{flat_map}
use Rattle.as_base.specs.Stream.{stream_name}
use Rattle.as_base.specs.declared.item.Given.{Given}
use Rattle.as_base.specs.declared.item.Item.{Item}
use Rattle.as_base.specs.declared.item.Item.TheVariants.{Rec, Mark, Create, Delete}
use Rattle.as_base.specs.declared.stream.StreamId.{StreamId}
use Rattle.as_base.specs.declared.stream.StreamId.TheVariants.{A, B, C, D}
use Rattle.as_lineform.specs.Spelling.{item_text}

-- what the number, line i and j mix to, below 65536
abbrev pub mixed : ℕ → ℕ → ℕ → ℕ
mixed number i j = (40503 * (number % 65536) + 30011 * (i % 65536) + 20011 * j) % 65536

-- a number below 65536, spread over these by its square
abbrev pub spread : ℕ → ℕ
spread u = (u * u / 64 + u) % 65536

-- the j-th of the numbers that line i is made of, below 65536
abbrev pub drawn : ℕ → ℕ → ℕ → ℕ
drawn number i j = spread (mixed number i j)

-- the stream at this place, from 0
abbrev pub stream_at : ℕ → StreamId
stream_at x = if x == 0 then A else (if x == 1 then B else (if x == 2 then C else D))

-- the parts of a query text of one of four shapes: a selection, a sum and a count of stream x, and a join of x and y
abbrev pub query_parts : ℕ → StreamId → StreamId → List (List ℕ)
query_parts shape x y =
    if shape == 0 then codes "select from " ∷ stream_name x ∷ codes " where v1 < 30000" ∷ []
    else (if shape == 1 then codes "sum v1 by key from " ∷ stream_name x ∷ codes " slide 1000 250" ∷ []
    else (if shape == 2 then codes "count by v2 from " ∷ stream_name x ∷ codes " tumble 500 where key >= 8" ∷ []
    else codes "join " ∷ stream_name x ∷ codes " " ∷ stream_name y ∷ codes " tumble 400" ∷ []))

-- the parts, one after another
abbrev pub text_of_parts : List (List ℕ) → List ℕ
text_of_parts parts = flat_map (λ part. part) parts

-- the text of the m-th creation, from 0: the shapes take turns, and each time round the next stream
abbrev pub created_text : ℕ → ℕ → List ℕ
created_text streams m = text_of_parts (query_parts (m % 4) (stream_at (m / 4 % streams)) (stream_at ((m / 4 + 1) % streams)))

-- the values of the record of line i
abbrev pub values_at : ℕ → ℕ → List ℤ
values_at number i = pos (drawn number i 2) ∷ pos (drawn number i 3 % 4) ∷ (pos (drawn number i 4) -ℤ pos 32768) ∷ pos 0 ∷ []

-- the record of line i: ten ticks a line, the streams take turns
abbrev pub record_at : ℕ → ℕ → ℕ → Given
record_at number i streams = record {
  stream = stream_at (i % streams);
  time = 10 * i;
  key = pos (drawn number i 1 % 32);
  v = values_at number i;
}

-- What line i says: of 32 lines, counted from 0, line 1 creates a query, line 17 deletes the one that was created eight
-- creations before, each eighth line is a watermark, and the others are records.
abbrev pub generated : ℕ → ℕ → ℕ → Item
generated number i streams =
    if i % 32 == 1 then Create (created_text streams (i / 32))
    else (if i % 32 == 17 && nat_le 8 (i / 32) then Delete (i / 32 - 7)
    else (if i % 8 == 0 then Mark (stream_at (i / 8 % streams)) (10 * i)
    else Rec (record_at number i streams)))

-- Line i, without its line feed.
abbrev pub line_of : ℕ → ℕ → ℕ → List ℕ
line_of number i streams = item_text (generated number i streams)
