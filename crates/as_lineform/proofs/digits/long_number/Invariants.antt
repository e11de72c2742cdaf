use Rattle.std.proofs.Common.{◌≡◌, ◌≤◌, ◌-◌, take, length}
use Rattle.std.specs.Str.Parse.{AllDigits, digits_value}
use Rattle.as_lineform.proofs.digits.long_number.Given as goal

abbrev pub invariant-rest : goal.invariant-rest
invariant-rest l = (l.count ≤ length l.word) × AllDigits 10 (take l.count l.word) × (l.number ≡ digits_value 10 (take l.count l.word))

abbrev pub decreases-rest : goal.decreases-rest
decreases-rest l = length l.word - l.count
