use Rattle.std.proofs.Common.{sym, ap, ◌∙◌}
use Rattle.std.specs.Result.{result_err}
use Rattle.query_plan.specs.Planning.{plan_of}
use Rattle.session.proofs.StepLaws.{stands-in, stands-out, unplanned-step}
use Rattle.session.proofs.session.Session.take_creation.Goals as goal

pub returns-in-Ok-clause-stands : goal.returns-in-Ok-clause-stands
returns-in-Ok-clause-stands c = λ config h s.
    let text = c.args.text.now in
    let planned = ap (λ n. plan_of n text) (sym s.configured) ∙ sym c.in_ok-plan.ensures.value ∙ c.in-Ok.is in
    c.open.ensures.stands config h text planned s

pub returns-in-Err-clause-stands : goal.returns-in-Err-clause-stands
returns-in-Err-clause-stands c = λ config h s.
    let text = c.args.text.now in
    let planned = ap (λ n. plan_of n text) (sym s.configured) ∙ sym c.in_ok-plan.ensures.value ∙ c.in-Err.is in
    let p = unplanned-step text c.in-Err.word (stands-in s) (ap result_err planned) in
    (stands-out _ _ _ p.0, p.1)
