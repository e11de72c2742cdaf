use Rattle.std.proofs.Common.{sym, ap, ◌∙◌, [], ◌∷◌, ◌++◌, append_assoc, append-nil, decimal}
use Rattle.as_base.specs.Stream.{stream_name}
use Rattle.as_words.specs.Words.{spaced}
use Rattle.as_words.proofs.AppendsLaws.{AppendsPrefix-after, AppendsPrefix-stopped}
use Rattle.as_lineform.proofs.spelling.append_timed.Goals as goal

pub returns-in_err-append_form : goal.returns-in_err-append_form
returns-in_err-append_form c =
    let form = c.args.form.now in
    let name = stream_name c.args.stream in
    AppendsPrefix-stopped c.from_residual.result c.args.out.now.items _ _ [] (form ++ 32 ∷ name) (spaced (decimal c.args.time ∷ [])) _
    c.from_residual.ensures.0 (sym (append-nil c.args.out.now.items)) (sym (append_assoc form (32 ∷ name) (spaced (decimal c.args.time ∷ [])))) c.in_err-append_form.ensures

pub returns : goal.returns
returns c =
    let form = c.args.form.now in
    let name = stream_name c.args.stream in
    let time = decimal c.args.time in
    AppendsPrefix-after c.append_spaced_decimal.result c.args.out.now.items _ _ (form ++ 32 ∷ name) (32 ∷ time) _ c.in_ok-append_form.ensures
    (ap (λ xs. form ++ (32 ∷ name ++ 32 ∷ xs)) (append-nil time) ∙ sym (append_assoc form (32 ∷ name) (32 ∷ time))) c.append_spaced_decimal.ensures
