use Rattle.std.proofs.Common.{length, ◌-◌, ◌≤◌}
use Rattle.as_lineform.proofs.digits.digits_at_front.Given as goal

abbrev pub invariant-digits : goal.invariant-digits
invariant-digits l = l.count ≤ length l.bytes

abbrev pub decreases-digits : goal.decreases-digits
decreases-digits l = length l.bytes - l.count
