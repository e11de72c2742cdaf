use Rattle.std.proofs.Common.{sym, ◌∙◌, ap}
use Rattle.as_words.specs.Number.{integer}
use Rattle.as_words.proofs.NumberLaws.{integer-plain_none, integer-converted, integer-minus_none, after_minus, before_none}
use Rattle.as_words.proofs.number.parse_integer.Goals as goal

pub returns-in_err-parse_natural-in-Some : goal.returns-in_err-parse_natural-in-Some
returns-in_err-parse_natural-in-Some c =
    let minus = rw c.as_slice.ensures at c.in-Some.ensures.cases in
    rw c.from_residual.ensures
    (sym (ap integer (after_minus c.args.word.now c.in-Some.digits.now minus.0 minus.1) ∙ integer-minus_none c.in-Some.digits.now (sym c.in_err-parse_natural-in-Some.ensures)))

pub returns-in_err-parse_natural-in-None : goal.returns-in_err-parse_natural-in-None
returns-in_err-parse_natural-in-None c =
    let none = rw c.as_slice.ensures at c.in-None.ensures.cases in
    rw c.from_residual-in_err-parse_natural-in-None.ensures
    (sym (integer-plain_none c.args.word.now (before_none c.args.word.now none) (sym c.in_err-parse_natural-in-None.ensures)))

pub returns-in_ok-parse_natural-in-None : goal.returns-in_ok-parse_natural-in-None
returns-in_ok-parse_natural-in-None c =
    c.ok.ensures.value ∙ integer-converted c.args.word.now c.in_ok-parse_natural-in-None.field-0 c.try_from.result (sym c.in_ok-parse_natural-in-None.ensures) c.try_from.ensures
