use Rattle.std.proofs.Common.{sym, ◌∙◌}
use Rattle.as_words.proofs.WideLaws.{wide-no_text, text_is, wide-no_number}
use Rattle.as_words.proofs.number.parse_wide.Goals as goal

pub returns-in_err-text : goal.returns-in_err-text
returns-in_err-text c = c.from_residual.ensures ∙ sym (wide-no_text c.args.word.now c.from_utf8.result _ _ c.from_utf8.ensures.cases c.in_err-text.ensures.value)

pub returns-in_err-number : goal.returns-in_err-number
returns-in_err-number c =
    let same = text_is c.args.word.now c.from_utf8.result c.in_ok-text.text _ c.from_utf8.ensures.cases c.in_ok-text.ensures.value in
    c.from_residual-in_err-number.ensures ∙ sym (wide-no_number c.args.word.now c.in_ok-text.text.now c.parse.result same c.parse.ensures.value.0 c.in_err-number.ensures.value)
