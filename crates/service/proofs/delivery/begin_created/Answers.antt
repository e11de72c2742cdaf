use Rattle.std.proofs.Common.{◌≡◌, ◌<◌, ◌++◌, [], ◌∷◌, refl, sym, ap, subst, ◌∙◌, append-nil}
use Rattle.std.specs.Option.{option_to_list}
use Rattle.as_base.specs.Times.{times}
use Rattle.session.specs.Outcome.{created}
use Rattle.service.specs.Served.{HasServed}
use Rattle.service.proofs.GoesLaws.{no_call, weaker}
use Rattle.service.proofs.ServedLaws.{served-same, stands_once}
use Rattle.service.proofs.delivery.begin_created.Goals as goal

pub returns-in-None-clause-calls : goal.returns-in-None-clause-calls
returns-in-None-clause-calls g c = λ numbers text spoken calls h fresh.
    let none : created c.args.answer ≡ [] = c.new_query.ensures ∙ ap option_to_list c.in-None.is in
    let broken = c.args.broken.now.numbers.items in
    no_call _ calls (HasServed (numbers ++ created c.args.answer) text spoken broken)
    (served-same numbers (numbers ++ created c.args.answer) text text spoken broken calls (sym (ap (λ l. numbers ++ l) none ∙ append-nil numbers)) (λ n. refl) h)

pub returns-in-Some-clause-calls : goal.returns-in-Some-clause-calls
returns-in-Some-clause-calls g c = λ numbers text spoken calls h fresh.
    let n = c.in-Some.n in
    let new : created c.args.answer ≡ n ∷ [] = c.new_query.ensures ∙ ap option_to_list c.in-Some.is in
    let at = fresh n (subst (λ l. 0 < times n l) (sym new) (stands_once n)) in
    let broken = c.begin.new.broken.numbers.items in
    weaker _ _ calls (HasServed (numbers ++ n ∷ []) text spoken broken) (HasServed (numbers ++ created c.args.answer) text spoken broken)
    (λ l u. served-same (numbers ++ n ∷ []) (numbers ++ created c.args.answer) text text spoken broken l (ap (λ q. numbers ++ q) (sym new)) (λ n. refl) u)
    (c.begin.ensures.calls numbers text spoken calls h at.0 at.1)
