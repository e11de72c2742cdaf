-- What is kept of all streams, by pair of slices: a name is two streams and the starts of a slice of each.
use Rattle.std.specs.Prelude.{ℕ, ◌+◌, ◌*◌, ◌==◌, ◌&&◌, ◌||◌, if◌then◌else◌, Bool, Option, List, [], length, slice_index_or, unwrap_or, is_some}
use Rattle.std.specs.List.{flat_map}
use Rattle.as_base.specs.declared.fragment.Couple.{Couple}
use Rattle.as_base.specs.declared.stream.StreamId.{StreamId}
use Rattle.as_base.specs.Stream.{place_of}
use Rattle.slice_store.specs.Slices.{Store}
use Rattle.shared_join.specs.declared.joins.Joins.{Joins}
use Rattle.shared_join.specs.declared.pair.Pair.{Pair}
use Rattle.shared_join.specs.declared.window.Window.{Window}
use Rattle.shared_join.specs.Lanes.{Lane, met_at, cut, cut_rows}
use Rattle.shared_join.specs.Window.{shown, starts_between}

-- the lane at a place
abbrev pub lane_at : List Lane → ℕ → Lane
lane_at lanes place = slice_index_or lanes place []

-- the place of the lane of two streams
abbrev pub lane_place : StreamId → StreamId → ℕ
lane_place first second = 4 * place_of first + place_of second

-- the lane of two streams
abbrev pub lane_of : Joins → StreamId → StreamId → Lane
lane_of j first second = lane_at j.lanes (lane_place first second)

-- the pairs of a name; `None` where its slices have not met
unfoldable pub met_of : List Lane → StreamId → ℕ → StreamId → ℕ → Option (List Pair)
met_of lanes s c t d = met_at (lane_at lanes (lane_place s t)) c d

abbrev pub met_in : Joins → StreamId → ℕ → StreamId → ℕ → Option (List Pair)
met_in j s c t d = met_of j.lanes s c t d

-- the slices of the name have met
abbrev pub has_met : Joins → StreamId → ℕ → StreamId → ℕ → Bool
has_met j s c t d = is_some (met_in j s c t d)

-- the pairs that are kept of the name, in an order that is free; none where its slices have not met
abbrev pub kept_in : Joins → StreamId → ℕ → StreamId → ℕ → List Pair
kept_in j s c t d = unwrap_or (met_in j s c t d) []

-- the stream and the start are those of the slice
abbrev pub is_slice : StreamId → ℕ → StreamId → ℕ → Bool
is_slice s c t d = (place_of t == place_of s) && (d == c)

-- both slices are those of the name
abbrev pub is_name : StreamId → ℕ → StreamId → ℕ → StreamId → ℕ → StreamId → ℕ → Bool
is_name s c t d u e v f = is_slice s c u e && is_slice t d v f

-- one of the slices of the name is this one
abbrev pub has_slice : StreamId → ℕ → StreamId → ℕ → StreamId → ℕ → Bool
has_slice s c u e v f = is_slice s c u e || is_slice s c v f

-- the lane without the pairs of a slice that begins there: of one of the first stream, and of one of the second
abbrev pub forgotten : Bool → Bool → ℕ → Lane → Lane
forgotten is_first is_second start lane =
    let rest = if is_first then cut start lane else lane in
    if is_second then cut_rows start (length rest) rest else rest

-- what a window shows of the slices of two streams
unfoldable pub shown_in : Joins → Window → Store → Store → List Couple
shown_in j w a b = flat_map (λ c. flat_map (λ d. flat_map (shown w) (kept_in j a.stream c b.stream d)) (starts_between w b)) (starts_between w a)
