use Rattle.std.proofs.Common.{sym, subst}
use Rattle.as_words.specs.Words.{spaced}
use Rattle.as_words.specs.Appends.{AppendsPrefix}
use Rattle.as_words.proofs.AppendsLaws.{AppendsPrefix-after, AppendsPrefix-within}
use Rattle.as_words.proofs.JoinedLaws.{spaced-append}
use Rattle.row_text.specs.RowText.{side_words}
use Rattle.row_text.proofs.row.append_sides.Goals as goal

pub returns-in_err-append_side : goal.returns-in_err-append_side
returns-in_err-append_side c =
    let left = side_words c.args.left.now in
    let right = side_words c.args.right.now in
    subst (AppendsPrefix c.from_residual.result _ _) (sym (spaced-append left right))
    (AppendsPrefix-within c.from_residual.result _ _ (spaced left) (spaced right) c.from_residual.ensures.0 c.in_err-append_side.ensures)

pub returns : goal.returns
returns c =
    let left = side_words c.args.left.now in
    let right = side_words c.args.right.now in
    AppendsPrefix-after c.append_side-2.result _ _ _ (spaced left) (spaced right) _ c.in_ok-append_side.ensures (spaced-append left right) c.append_side-2.ensures
