use Rattle.std.proofs.Common.{◌∷◌, map, decimal}
use Rattle.std.specs.Fmt.{signed_decimal}
use Rattle.as_words.specs.Words.{spaced}
use Rattle.as_words.proofs.AppendsLaws.{AppendsPrefix-within}
use Rattle.row_text.proofs.row.append_side.Goals as goal

pub returns-in_err-append_spaced_decimal : goal.returns-in_err-append_spaced_decimal
returns-in_err-append_spaced_decimal c =
    let given = c.args.given.now in
    AppendsPrefix-within c.from_residual.result _ _ (32 ∷ decimal given.time) (spaced (map signed_decimal given.v)) c.from_residual.ensures.0 c.in_err-append_spaced_decimal.ensures
