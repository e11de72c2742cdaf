use Rattle.std.proofs.Common.{◌≡◌, ℕ, ◌<◌, length, get_or}
use Rattle.group_table.proofs.numbers.clear_all.Given as goal

abbrev pub invariant-loop-number : goal.invariant-loop-number
invariant-loop-number l = record {
  slots : length l.numbers ≡ length l.initial.numbers;
  done : (s : ℕ) → s < l.number-index → get_or l.numbers s 512 ≡ 512;
}
