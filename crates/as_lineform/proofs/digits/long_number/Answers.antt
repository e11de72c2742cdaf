use Rattle.std.proofs.Common.{◌≡◌, ◌-◌, ℕ, List, get_or, arith}
use Rattle.std.proofs.lemmas.Int.Digits.{digits_more, digits_value_more}
use Rattle.std.specs.Char.{digit_value}
use Rattle.as_lineform.proofs.DigitLaws.{digit_is}
use Rattle.as_lineform.proofs.digits.long_number.Goals as goal

pub rest-preserved : goal.rest-preserved
rest-preserved c =
    let bytes : List ℕ = c.args.word.now in
    let i : ℕ = c.rest.count in
    let digit = c.if-not-is_ascii_digit.ensures in
    let is : digit_value (get_or bytes i 0) ≡ get_or bytes i 0 - 48 = digit_is (get_or bytes i 0) digit.cases.0 digit.cases.1 in
    let more = digits_value_more 10 bytes i c.rest-test.true in (
      omega (arith, c.rest-test.true),
      digits_more 10 bytes i c.rest-test.true c.rest.invariant.1 digit.bound,
      omega (arith, more, is, c.rest.invariant.2, c.from.ensures),
    )
