-- Which items count, and the front, the watermark and the changelog time after a list of items.
use Rattle.std.specs.Prelude.{ℕ, ◌+◌, ◌^◌, ◌==◌, max, if◌then◌else◌, Bool, true, false, List, [], ◌∷◌, ◌&&◌, not}
use Rattle.std.specs.List.{filter, list_any}
use Rattle.as_base.specs.declared.config.Config.{Config}
use Rattle.as_base.specs.declared.stream.StreamId.{StreamId}
use Rattle.as_base.specs.declared.stream.StreamId.TheVariants.{A, B, C, D}
use Rattle.as_base.specs.declared.item.Item.{Item}
use Rattle.as_base.specs.declared.item.Item.TheVariants.{Rec, Mark, End, Create, Delete, Bad}
use Rattle.as_base.specs.Stream.{place_of}
use Rattle.as_base.specs.Config.{is_configured}

-- the item is a record, a watermark or the end of stream s
abbrev pub is_on : StreamId → Item → Bool
is_on s (Rec g) = place_of g.stream == place_of s
is_on s (Mark r t) = place_of r == place_of s
is_on s (End r) = place_of r == place_of s
is_on s (Create text) = false
is_on s (Delete n) = false
is_on s (Bad cause) = false

-- the item is the end of a stream
abbrev pub is_end : Item → Bool
is_end (End s) = true
is_end (Rec g) = false
is_end (Mark s t) = false
is_end (Create text) = false
is_end (Delete n) = false
is_end (Bad cause) = false

-- the items up to and with the first end
abbrev pub up_to_end : List Item → List Item
up_to_end [] = []
up_to_end (x ∷ h) = if is_end x then x ∷ [] else x ∷ up_to_end h

-- The items of stream s that count: those up to its end, if it is configured.
abbrev pub counting : Config → StreamId → List Item → List Item
counting c s h = if is_configured c s then up_to_end (filter (is_on s) h) else []

-- the time of a record or a watermark
abbrev pub time_of : Item → ℕ
time_of (Rec g) = g.time
time_of (Mark s t) = t
time_of (End s) = 0
time_of (Create text) = 0
time_of (Delete n) = 0
time_of (Bad cause) = 0

-- the time of a watermark
abbrev pub mark_of : Item → ℕ
mark_of (Mark s t) = t
mark_of (Rec g) = 0
mark_of (End s) = 0
mark_of (Create text) = 0
mark_of (Delete n) = 0
mark_of (Bad cause) = 0

-- the tick after a record or a watermark
abbrev pub tick_after : Item → ℕ
tick_after (Rec g) = g.time + 1
tick_after (Mark s t) = t + 1
tick_after (End s) = 0
tick_after (Create text) = 0
tick_after (Delete n) = 0
tick_after (Bad cause) = 0

-- the greatest of these numbers of the items, or 0
abbrev pub greatest : (Item → ℕ) → List Item → ℕ
greatest f [] = 0
greatest f (x ∷ h) = max (f x) (greatest f h)

-- the greatest time of a record or watermark that counts on the stream, or 0
abbrev pub front : Config → List Item → StreamId → ℕ
front c h s = greatest time_of (counting c s h)

-- the greatest watermark that counts on the stream, or 0
abbrev pub top_mark : Config → List Item → StreamId → ℕ
top_mark c h s = greatest mark_of (counting c s h)

-- an end of the stream counts
abbrev pub has_ended : Config → List Item → StreamId → Bool
has_ended c h s = list_any is_end (counting c s h)

-- an end of the stream would be accepted: it is configured and has not ended
abbrev pub is_open : Config → List Item → StreamId → Bool
is_open c h s = is_configured c s && not (has_ended c h s)

-- The watermark of the stream: no later record of it has a time below. After its end it is 2^62, the tick after all times.
abbrev pub watermark : Config → List Item → StreamId → ℕ
watermark c h s = if has_ended c h s then 2 ^ 62 else top_mark c h s

-- the tick after all records and watermarks that count on the stream, or 0
abbrev pub seen_on : Config → List Item → StreamId → ℕ
seen_on c h s = greatest tick_after (counting c s h)

-- The changelog time: the tick after all records and watermarks that count on any stream, or 0.
abbrev pub changelog_time : Config → List Item → ℕ
changelog_time c h = max (seen_on c h A) (max (seen_on c h B) (max (seen_on c h C) (seen_on c h D)))
