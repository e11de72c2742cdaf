use Rattle.std.proofs.Common.{◌≡◌}
use Rattle.shared_join.specs.Lanes.{cut_rows}
use Rattle.shared_join.proofs.lanes.cut_entries.Given as goal

-- the rows so far are cut
abbrev pub invariant-loop-place : goal.invariant-loop-place
invariant-loop-place l = l.lane ≡ cut_rows l.second l.place l.initial.lane
