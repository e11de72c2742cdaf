use Rattle.std.proofs.Common.{◌≡◌, ◌∷◌, ◌++◌, decimal, to_z, of_z, w64, refl, sym, ap, subst, ◌∙◌, append_assoc, arith}
use Rattle.std.proofs.lemmas.Int.{ints, to_z-of_z}
use Rattle.std.specs.Fmt.{signed_decimal}
use Rattle.as_words.specs.Appends.{AppendsPrefix}
use Rattle.as_words.specs.Words.{spaced}
use Rattle.as_words.proofs.AppendsLaws.{AppendsPrefix-after, AppendsPrefix-within}
use Rattle.row_text.specs.RowText.{side_words}
use Rattle.row_text.proofs.row.append_pair.Goals as goal

pub returns-in_err-append_window : goal.returns-in_err-append_window
returns-in_err-append_window c =
    let words = signed_decimal c.args.left.now.key ∷ side_words c.args.left.now ++ side_words c.args.right.now in
    subst (AppendsPrefix c.from_residual.result _ _) (append_assoc (decimal c.args.start) (32 ∷ decimal c.args.end) (spaced words))
    (AppendsPrefix-within c.from_residual.result _ _ (decimal c.args.start ++ 32 ∷ decimal c.args.end) (spaced words) c.from_residual.ensures.0 c.in_err-append_window.ensures)

pub returns-in_err-append_spaced_signed : goal.returns-in_err-append_spaced_signed
returns-in_err-append_spaced_signed c =
    let window = decimal c.args.start ++ 32 ∷ decimal c.args.end in
    let key = to_z w64 (of_z w64 c.args.left.now.key) in
    let same : key ≡ c.args.left.now.key = grind (arith, ints, to_z-of_z) in
    let sides = side_words c.args.left.now ++ side_words c.args.right.now in
    let r = c.from_residual-in_err-append_spaced_signed in
    AppendsPrefix-after r.result _ _ _ window (spaced (signed_decimal key ∷ sides)) _ c.in_ok-append_window.ensures
    (sym (append_assoc (decimal c.args.start) (32 ∷ decimal c.args.end) (spaced (signed_decimal c.args.left.now.key ∷ sides))) ∙ ap (λ z. window ++ spaced (signed_decimal z ∷ sides)) (sym same))
    (AppendsPrefix-within r.result _ _ (32 ∷ signed_decimal key) (spaced sides) r.ensures.0 c.in_err-append_spaced_signed.ensures)

pub returns : goal.returns
returns c =
    let window = decimal c.args.start ++ 32 ∷ decimal c.args.end in
    let key = to_z w64 (of_z w64 c.args.left.now.key) in
    let same : key ≡ c.args.left.now.key = grind (arith, ints, to_z-of_z) in
    let sides = side_words c.args.left.now ++ side_words c.args.right.now in
    let r = c.append_sides.result in
    AppendsPrefix-after r _ _ _ window (spaced (signed_decimal key ∷ sides)) _ c.in_ok-append_window.ensures
    (sym (append_assoc (decimal c.args.start) (32 ∷ decimal c.args.end) (spaced (signed_decimal c.args.left.now.key ∷ sides))) ∙ ap (λ z. window ++ spaced (signed_decimal z ∷ sides)) (sym same))
    (AppendsPrefix-after r _ _ _ (32 ∷ signed_decimal key) (spaced sides) _ c.in_ok-append_spaced_signed.ensures refl c.append_sides.ensures)
