use Rattle.std.proofs.Common.{◌≡◌, ◌∷◌, ◌++◌, map, decimal, to_z, of_z, w64, refl, sym, ap, arith}
use Rattle.std.proofs.lemmas.Int.{ints, to_z-of_z}
use Rattle.std.specs.Fmt.{signed_decimal}
use Rattle.as_words.specs.Words.{spaced}
use Rattle.as_words.proofs.AppendsLaws.{AppendsPrefix-after, AppendsPrefix-within}
use Rattle.row_text.proofs.row.append_selected.Goals as goal

pub returns-in_err-append_spaced_signed : goal.returns-in_err-append_spaced_signed
returns-in_err-append_spaced_signed c =
    let given = c.args.given.now in
    let key = to_z w64 (of_z w64 given.key) in
    let same : key ≡ given.key = grind (arith, ints, to_z-of_z) in
    let values = map signed_decimal given.v in
    let r = c.from_residual-in_err-append_spaced_signed in
    AppendsPrefix-after r.result _ _ _ (decimal given.time) (spaced (signed_decimal key ∷ values)) _ c.in_ok-append_decimal.ensures
    (ap (λ z. decimal given.time ++ spaced (signed_decimal z ∷ values)) (sym same))
    (AppendsPrefix-within r.result _ _ (32 ∷ signed_decimal key) (spaced values) r.ensures.0 c.in_err-append_spaced_signed.ensures)

pub returns : goal.returns
returns c =
    let given = c.args.given.now in
    let key = to_z w64 (of_z w64 given.key) in
    let same : key ≡ given.key = grind (arith, ints, to_z-of_z) in
    let values = map signed_decimal given.v in
    let r = c.append_spaced_numbers.result in
    AppendsPrefix-after r _ _ _ (decimal given.time) (spaced (signed_decimal key ∷ values)) _ c.in_ok-append_decimal.ensures
    (ap (λ z. decimal given.time ++ spaced (signed_decimal z ∷ values)) (sym same))
    (AppendsPrefix-after r _ _ _ (32 ∷ signed_decimal key) (spaced values) _ c.in_ok-append_spaced_signed.ensures refl c.append_spaced_numbers.ensures)
