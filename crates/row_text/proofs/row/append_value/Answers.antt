use Rattle.std.proofs.Common.{◌≡◌, [], ◌∷◌, ◌++◌, decimal, sym, ap, subst, ◌∙◌, append_assoc, append-nil, arith}
use Rattle.std.proofs.lemmas.Int.{ints, to_z-of_z}
use Rattle.std.specs.Fmt.{signed_decimal}
use Rattle.as_words.specs.Appends.{AppendsPrefix}
use Rattle.as_words.specs.Words.{spaced}
use Rattle.as_words.proofs.AppendsLaws.{AppendsPrefix-after, AppendsPrefix-within}
use Rattle.as_words.proofs.JoinedLaws.{spaced-append}
use Rattle.row_text.specs.RowText.{group_words}
use Rattle.row_text.proofs.row.append_value.Goals as goal

pub returns-in_err-append_window : goal.returns-in_err-append_window
returns-in_err-append_window c =
    let words = group_words c.args.group ++ signed_decimal c.args.value ∷ [] in
    subst (AppendsPrefix c.from_residual.result _ _) (append_assoc (decimal c.args.start) (32 ∷ decimal c.args.end) (spaced words))
    (AppendsPrefix-within c.from_residual.result _ _ (decimal c.args.start ++ 32 ∷ decimal c.args.end) (spaced words) c.from_residual.ensures.0 c.in_err-append_window.ensures)

pub returns-in_err-append_group : goal.returns-in_err-append_group
returns-in_err-append_group c =
    let group = group_words c.args.group in
    let last = signed_decimal c.args.value ∷ [] in
    let r = c.from_residual-in_err-append_group in
    AppendsPrefix-after r.result _ _ _ (decimal c.args.start ++ 32 ∷ decimal c.args.end) (spaced (group ++ last)) _ c.in_ok-append_window.ensures
    (sym (append_assoc (decimal c.args.start) (32 ∷ decimal c.args.end) (spaced (group ++ last))))
    (subst (AppendsPrefix r.result _ _) (sym (spaced-append group last)) (AppendsPrefix-within r.result _ _ (spaced group) (spaced last) r.ensures.0 c.in_err-append_group.ensures))

pub returns : goal.returns
returns c =
    let group = group_words c.args.group in
    let word = signed_decimal c.args.value in
    let r = c.append_spaced.result in
    let same : c.as_bytes.result.now ≡ word = c.as_bytes.ensures.value ∙ c.format.ensures.text ∙ ap (λ z. signed_decimal z) (grind (arith, ints, to_z-of_z)) in
    AppendsPrefix-after r _ _ _ (decimal c.args.start ++ 32 ∷ decimal c.args.end) (spaced (group ++ word ∷ [])) _ c.in_ok-append_window.ensures
    (sym (append_assoc (decimal c.args.start) (32 ∷ decimal c.args.end) (spaced (group ++ word ∷ []))))
    (AppendsPrefix-after r _ _ _ (spaced group) (32 ∷ c.as_bytes.result.now) _ c.in_ok-append_group.ensures
    (spaced-append group (word ∷ []) ∙ ap (λ l. spaced group ++ 32 ∷ l) (append-nil word ∙ sym same)) c.append_spaced.ensures)
