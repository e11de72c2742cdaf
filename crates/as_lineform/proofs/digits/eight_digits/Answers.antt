use Rattle.std.proofs.Common.{◌<◌, ℕ, map, take, get_or, sym, ◌∙◌, arith, rules}
use Rattle.std.specs.Char.{digit_value}
use Rattle.std.proofs.lemmas.Int.Digits.{digits_value_is}
use Rattle.as_lineform.proofs.DigitLaws.{read_front, AllBelowBase-values, digits_fit, eight_value}
use Rattle.as_lineform.proofs.digits.eight_digits.Goals as goal

pub number_of-requires : goal.number_of-requires
number_of-requires c =
    let chunk = c.in_ok-eight.ensures.cases in
    let small : (i : ℕ) → get_or c.args.bytes.now i 0 < 256 = search rules in
    let read = read_front c.args.bytes.now _ _ c.in_ok-values.values chunk.enough chunk.same small c.from_le_bytes.ensures c.in_ok-values.ensures in
    digits_fit (map digit_value (take 8 c.args.bytes.now)) c.in_ok-values.values read.1 (AllBelowBase-values (take 8 c.args.bytes.now) read.0)

pub returns-clause-digits : goal.returns-clause-digits
returns-clause-digits c =
    let chunk = c.in_ok-eight.ensures.cases in
    let small : (i : ℕ) → get_or c.args.bytes.now i 0 < 256 = search rules in
    (read_front c.args.bytes.now _ _ c.in_ok-values.values chunk.enough chunk.same small c.from_le_bytes.ensures c.in_ok-values.ensures).0

pub returns-clause-number : goal.returns-clause-number
returns-clause-number c =
    let chunk = c.in_ok-eight.ensures.cases in
    let small : (i : ℕ) → get_or c.args.bytes.now i 0 < 256 = search rules in
    let read = read_front c.args.bytes.now _ _ c.in_ok-values.values chunk.enough chunk.same small c.from_le_bytes.ensures c.in_ok-values.ensures in
    c.number_of.ensures (map digit_value (take 8 c.args.bytes.now)) read.1 (AllBelowBase-values (take 8 c.args.bytes.now) read.0)
    ∙ sym (digits_value_is 10 (take 8 c.args.bytes.now))

pub returns-clause-small : goal.returns-clause-small
returns-clause-small c =
    let below = eight_value c.args.bytes.now c.in_ok-eight.ensures.cases.enough (returns-clause-digits c) in
    omega (arith, returns-clause-number c, below)
