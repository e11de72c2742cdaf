use Rattle.std.proofs.Common.{◌++◌, codes, decimal, refl, sym, append_assoc, append-nil, [], ap, ◌∙◌}
use Rattle.as_words.proofs.AppendsLaws.{AppendsPrefix-stopped}
use Rattle.as_lineform.specs.Answer.{word_text}
use Rattle.as_lineform.proofs.answer.append_answer.Goals as goal

pub returns-in_err-append_word : goal.returns-in_err-append_word
returns-in_err-append_word c =
    AppendsPrefix-stopped c.from_residual-in_err-append_word.result _ _ _ (decimal c.args.a.now.line ++ codes " ") (word_text c.args.a.now.word) (codes "\n") _
    c.from_residual-in_err-append_word.ensures.0
    (c.in_ok-extend_from_slice.ensures.items ∙ ap (λ xs. xs ++ codes " ") c.in_ok-append_decimal.ensures ∙ append_assoc c.args.out.now.items (decimal c.args.a.now.line) (codes " "))
    refl c.in_err-append_word.ensures

pub returns-in_err-extend_from_slice : goal.returns-in_err-extend_from_slice
returns-in_err-extend_from_slice c =
    AppendsPrefix-stopped c.from_residual-in_err-extend_from_slice.result _ _ _ (decimal c.args.a.now.line) (codes " ") (word_text c.args.a.now.word ++ codes "\n") _
    c.from_residual-in_err-extend_from_slice.ensures.0 c.in_ok-append_decimal.ensures (append_assoc (decimal c.args.a.now.line ++ codes " ") (word_text c.args.a.now.word) (codes "\n"))
    ([], (codes " ", refl), c.in_err-extend_from_slice.ensures.items ∙ sym (append-nil c.append_decimal.new.out.items))
