use Rattle.std.proofs.Common.{◌∷◌, decimal, refl}
use Rattle.as_words.proofs.AppendsLaws.{AppendsPrefix-after}
use Rattle.row_text.proofs.row.append_window.Goals as goal

pub returns : goal.returns
returns c = AppendsPrefix-after c.append_spaced_decimal.result _ _ _ (decimal c.args.start) (32 ∷ decimal c.args.end) _ c.in_ok-append_decimal.ensures refl c.append_spaced_decimal.ensures
