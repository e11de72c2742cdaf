use Rattle.std.proofs.Common.{Some, refl, sym, ap, ◌∙◌, true≢false, is_none}
use Rattle.astream_top.proofs.CauseLaws.{surely, surely_said, ends}
use Rattle.astream_top.proofs.top.rehearse.Goals as goal

pub returns-clause-ended : goal.returns-clause-ended
returns-clause-ended g c = λ d limit is.
    let report = c.astream.result in
    let input = c.args.input.items in
    let all = c.astream.ensures in
    surely limit input report.status report.broken _ _ _ refl refl refl refl (λ n. refl) (λ n. refl) all.causes (all.read d limit input is c.in_ok-desk.ensures.left)
    (λ used. true≢false (sym (ap is_none (all.usage.0 used)) ∙ ap is_none is))

pub returns-clause-said : goal.returns-clause-said
returns-clause-said g c = λ command is only.
    let report = c.astream.result in
    let all = c.astream.ensures in
    surely_said report.status report.broken _ _ refl refl all.causes
    (ends command report.status report.lines _ _ only (λ d seed lines e. all.soaked d seed lines (is ∙ ap Some e)) (λ seed lines streams e. all.generated seed lines streams (is ∙ ap Some e)) (λ text e. (all.explained text (is ∙ ap Some e)).0))
