-- The names whose slices have met, each once, and how many pairs are kept of all of them.
use Rattle.std.specs.Prelude.{ℕ, Bool, List, map, length}
use Rattle.std.specs.List.{flat_map, sum_by, AllByRecursion}
use Rattle.as_base.specs.declared.stream.StreamId.{StreamId}
use Rattle.as_base.specs.Stream.{streams}
use Rattle.by_start.specs.declared.Begun.{Begun}
use Rattle.by_start.specs.Order.{StartsRise}
use Rattle.shared_join.specs.declared.joins.Joins.{Joins}
use Rattle.shared_join.specs.declared.pair.Pair.{Pair}
use Rattle.shared_join.specs.Lanes.{Row, Lane}
use Rattle.shared_join.specs.Joins.{lane_of, kept_in, is_name}

-- two streams, and when a slice of each begins
pub record Name : Type 0 where
  pub first : StreamId
  pub from : ℕ
  pub second : StreamId
  pub to : ℕ

abbrev pub name : StreamId → ℕ → StreamId → ℕ → Name
name s c t d = record { first = s; from = c; second = t; to = d }

-- the names of a row, and of a lane
abbrev pub names_in_row : StreamId → ℕ → StreamId → Row → List Name
names_in_row s c t row = map (λ (e : Begun (List Pair)). name s c t e.start) row

abbrev pub names_in : StreamId → StreamId → Lane → List Name
names_in s t lane = flat_map (λ (r : Begun Row). names_in_row s r.start t r.thing) lane

-- all names whose slices have met
unfoldable pub names_of : Joins → List Name
names_of j = flat_map (λ s. flat_map (λ t. names_in s t (lane_of j s t)) streams) streams

-- the name is that of these slices
abbrev pub is_named : StreamId → ℕ → StreamId → ℕ → Name → Bool
is_named s c t d n = is_name s c t d n.first n.from n.second n.to

-- how many pairs are kept of all names
abbrev pub number_of : Joins → ℕ
number_of j = sum_by (λ (n : Name). length (kept_in j n.first n.from n.second n.to)) (names_of j)

-- how many pairs a row has, and a lane
abbrev pub row_pairs : Row → ℕ
row_pairs row = sum_by (λ (e : Begun (List Pair)). length e.thing) row

abbrev pub lane_pairs : Lane → ℕ
lane_pairs lane = sum_by (λ (r : Begun Row). row_pairs r.thing) lane

-- the rows, and the entries of each, stand by rising start
pub record IsInOrder (lane : Lane) : Type 0 where
  pub rise : StartsRise lane
  pub rows : AllByRecursion (λ (r : Begun Row). StartsRise r.thing) lane
