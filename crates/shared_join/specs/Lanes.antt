-- What was joined of two streams: by the starts of the slices of the first, and for each of these by those of the second.
use Rattle.std.specs.Prelude.{ℕ, ◌==◌, not, Option, List, [], ◌∷◌, unwrap_or, zero, suc}
use Rattle.std.specs.List.{filter}
use Rattle.by_start.specs.declared.Begun.{Begun}
use Rattle.by_start.specs.Order.{begun, look, thing_at}
use Rattle.shared_join.specs.declared.pair.Pair.{Pair}

-- the pairs of a slice with slices of another stream, by the starts of these
abbrev pub Row : Type 0
Row = List (Begun (List Pair))

-- the rows of the slices of a stream, by their starts
abbrev pub Lane : Type 0
Lane = List (Begun Row)

-- the row of the slice that begins there; an empty one where there is none
abbrev pub row_at : ℕ → Lane → Row
row_at c lane = unwrap_or (look c lane) []

-- the row at a place
abbrev pub row_in : ℕ → Lane → Row
row_in place lane = unwrap_or (thing_at place lane) []

-- the pairs of the slices that begin at c and d; `None` where these were not joined
abbrev pub met_at : Lane → ℕ → ℕ → Option (List Pair)
met_at lane c d = look d (row_at c lane)

-- all but what begins there
abbrev pub cut : {X : Type 0} → ℕ → List (Begun X) → List (Begun X)
cut {X} start list = filter (λ (b : Begun X). not (start == b.start)) list

-- the lane, with all but what begins there in the first so many of its rows
abbrev pub cut_rows : ℕ → ℕ → Lane → Lane
cut_rows d zero lane = lane
cut_rows d (suc k) [] = []
cut_rows d (suc k) (r ∷ lane) = begun r.start (cut d r.thing) ∷ cut_rows d k lane
