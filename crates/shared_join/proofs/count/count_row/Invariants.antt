use Rattle.std.proofs.Common.{◌≡◌, ◌-◌, ◌^◌, min, take}
use Rattle.shared_join.specs.Names.{row_pairs}
use Rattle.shared_join.proofs.count.count_row.Given as goal

-- the entries so far
abbrev pub invariant-loop-place : goal.invariant-loop-place
invariant-loop-place l = l.count ≡ min (row_pairs (take l.place l.row)) (2 ^ 64 - 1)
