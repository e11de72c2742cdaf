use Rattle.std.proofs.Common.{arith, take_all}
use Rattle.std.proofs.lemmas.Int.Digits.{digits_more, digits_value_more}
use Rattle.as_words.proofs.NumberLaws.{no_number}
use Rattle.as_words.proofs.number.from_digits.Goals as goal

pub returns-in_err-number : goal.returns-in_err-number
returns-in_err-number c =
    rw c.from_residual.ensures
    (no_number c.args.word.now c.loop-byte.byte-index c.loop-byte.number c.loop-byte-test.true c.loop-byte.invariant.1 c.in_err-number.ensures)

pub loop-byte-preserved : goal.loop-byte-preserved
loop-byte-preserved c =
    let more = digits_value_more 10 c.args.word.now c.loop-byte.byte-index c.loop-byte-test.true in (
      digits_more 10 c.args.word.now c.loop-byte.byte-index c.loop-byte-test.true c.loop-byte.invariant.0 c.in_ok-number.ensures.0.0,
      omega (arith, more, c.loop-byte.invariant.1, c.in_ok-number.ensures.1),
      omega (arith, c.in_ok-number.ensures.0.1, c.in_ok-number.ensures.1),
    )

pub returns : goal.returns
returns c =
    let inv = rw (take_all c.loop-byte.byte-index c.args.word.now c.loop-byte-test.false) at c.loop-byte.invariant in
    ((inv.0, omega (arith, inv.1, inv.2)), inv.1)
