use Rattle.std.proofs.Common.{◌≡◌, ℕ, ◌<◌, [], length, get_or}
use Rattle.group_table.proofs.large.clear_all.Given as goal

abbrev pub invariant-loop-row : goal.invariant-loop-row
invariant-loop-row l = record {
  rows : length l.rows ≡ length l.initial.rows;
  done : (k : ℕ) → k < l.row-index → get_or l.rows k [] ≡ [];
}
