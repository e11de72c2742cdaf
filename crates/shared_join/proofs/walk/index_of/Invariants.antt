use Rattle.std.proofs.Common.{◌≡◌, ℤ}
use Rattle.std.specs.List.{filter, range_with_len}
use Rattle.key_index.specs.Places.{places_of}
use Rattle.shared_join.specs.Found.{has_key_at}
use Rattle.shared_join.proofs.walk.index_of.Given as goal

-- the places so far
abbrev pub invariant-loop-place : goal.invariant-loop-place
invariant-loop-place l = (k : ℤ) → places_of l.index k ≡ filter (has_key_at k l.side) (range_with_len 0 l.place)
