-- The item that a line says: its forms and their fields.
use Rattle.std.specs.Prelude.{ℕ, ◌^◌, ◌&&◌, nat_lt, if◌then◌else◌, Option, Some, None, List, [], ◌∷◌, length, take, drop, codes, unwrap_or}
use Rattle.std.specs.Option.{option_and_then, option_map, option_map_or}
use Rattle.std.specs.Str.{bytes_eq}
use Rattle.as_base.specs.Stream.{stream_named}
use Rattle.as_base.specs.declared.stream.StreamId.{StreamId}
use Rattle.as_base.specs.declared.item.Given.{Given}
use Rattle.as_base.specs.declared.item.Cause.TheVariants.{Long, Form}
use Rattle.as_base.specs.declared.item.Item.{Item}
use Rattle.as_base.specs.declared.item.Item.TheVariants.{Rec, Mark, End, Create, Delete, Bad}
use Rattle.as_words.specs.Parts.{parts_of}
use Rattle.as_words.specs.Number.{natural, integer}
use Rattle.as_words.specs.Words.{is_words}

infixl 10 ◌>>=◌
-- what the second reads with the first's result, if both read something
abbrev pub ◌>>=◌ : {X Y : Type 0} → Option X → (X → Option Y) → Option Y
o >>= f = option_and_then f o

-- the record of the stream whose words after the stream's are these
abbrev pub given_of : StreamId → List (List ℕ) → Option Given
given_of stream (time ∷ key ∷ v1 ∷ v2 ∷ v3 ∷ v4 ∷ []) = do
  t ← natural (2 ^ 62) time
  k ← integer key
  x1 ← integer v1
  x2 ← integer v2
  x3 ← integer v3
  x4 ← integer v4
  Some (record { stream = stream; time = t; key = k; v = x1 ∷ x2 ∷ x3 ∷ x4 ∷ [] })
given_of stream _ = None

-- the number below the limit that the one word spells
abbrev pub alone_of : ℕ → List (List ℕ) → Option ℕ
alone_of limit (word ∷ []) = natural limit word
alone_of limit _ = None

-- the end of the stream, after whose name no word may follow
abbrev pub end_of : StreamId → List (List ℕ) → Option Item
end_of stream [] = Some (End stream)
end_of stream _ = None

-- what a line of this form says of the stream
abbrev pub item_of_stream : List ℕ → List (List ℕ) → StreamId → Option Item
item_of_stream form fields stream =
    if bytes_eq form (codes "rec") then option_map Rec (given_of stream fields)
    else (if bytes_eq form (codes "mark") then option_map (Mark stream) (alone_of (2 ^ 62) fields)
    else (if bytes_eq form (codes "end") then end_of stream fields
    else None))

-- the item of a form with the words after it, of which the first names a stream
abbrev pub item_of_form : List ℕ → List (List ℕ) → Option Item
item_of_form form (stream ∷ fields) = stream_named stream >>= item_of_stream form fields
item_of_form form [] = None

-- the item of a line's words, if they are not a creation's
abbrev pub item_of_words : List (List ℕ) → Option Item
item_of_words (form ∷ fields) =
    if bytes_eq form (codes "delete") then option_map Delete (alone_of (2 ^ 63) fields)
    else item_of_form form fields
item_of_words [] = None

-- the query text of a creation; the line `create` has the empty text
abbrev pub creation_of : List ℕ → Option (List ℕ)
creation_of line =
    if bytes_eq line (codes "create") then Some []
    else (if bytes_eq (take 7 line) (codes "create ") && is_words (drop 7 line) then Some (drop 7 line)
    else None)

-- the item of a line that is not too long
abbrev pub item_of_short : List ℕ → Item
item_of_short line = option_map_or Create (creation_of line) (unwrap_or (item_of_words (parts_of 32 line)) (Bad Form))

-- the item that a line says
abbrev pub item_of : List ℕ → Item
item_of line = if nat_lt 4096 (length line) then Bad Long else item_of_short line

-- the item is a creation, which alone takes memory
abbrev pub IsCreation : Item → Type 0
IsCreation (Create text) = Unit {0}
IsCreation _ = ⊥
