use Rattle.std.proofs.Common.{sym, ◌∙◌, arith}
use Rattle.as_words.proofs.NumberLaws.{natural-zero, natural-digits, first_is, none_first}
use Rattle.as_words.proofs.number.parse_natural.Goals as goal
use Rattle.as_words.proofs.number.parse_natural.Goals.{else-first-eq48-via-then-first-eq48+else-word-gt1, else-first-eq48-via-else-first-eq48}

pub returns-in_err-first : goal.returns-in_err-first
returns-in_err-first c = rw c.from_residual.ensures (sym (none_first c.args.word.now c.in_err-first.ensures.value))

pub returns-then-word-gt1 : goal.returns-then-word-gt1
returns-then-word-gt1 c =
    sym (natural-zero c.args.word.now ((first_is c.args.word.now _ c.in_ok-first.ensures.value).1 ∙ c.if-first-eq48.true) c.if-word-gt1.true)

pub returns : goal.returns
returns c =
    let first = first_is c.args.word.now _ c.in_ok-first.ensures.value in
    natural-digits c.args.word.now c.from_digits.result first.0
    (λ z. elim c.else-first-eq48.branch [
      | else-first-eq48-via-then-first-eq48+else-word-gt1 w ↦ omega (arith, first.0, w.if-word-gt1.false)
      | else-first-eq48-via-else-first-eq48 w ↦ absurd (w.if-first-eq48.false (sym first.1 ∙ z))
    ])
    c.from_digits.ensures
