use Rattle.std.proofs.Common.{◌≡◌, [], rules, sym, ◌∙◌}
use Rattle.session.specs.View.{view}
use Rattle.session.proofs.FollowLaws.{message-follows, view-is}
use Rattle.as_base.specs.declared.message.Msg.TheVariants.{Change}
use Rattle.plain_engine.proofs.EngineLaws.{fed_by, fed_none, stands_by, stands_none, ok_with}
use Rattle.plain_engine.proofs.engine.PlainEngine.take.Goals as goal

pub returns-in-Pass-clause-stands : goal.returns-in-Pass-clause-stands
returns-in-Pass-clause-stands c = λ h s.
    let config = c.args.self.now.config in
    let x = c.args.item in
    let m = c.in-Pass.message in
    let step = c.in_ok-message.ensures.stands config h s.session in
    let decided = rw c.in-Pass.is at step.1 in
    let follows = message-follows config h x m s.ranged c.requires.range decided.0 in
    ok_with c.print.result
    (λ fed printed answer.
    (stands_by _ h x m s.going s.ranged c.requires.range decided.0 step.0 printed.0, fed_by config h x m fed decided.0 (answer ∙ sym decided.1) printed.1))
    (c.print.ensures.stands (view config h) (view-is config h s.ranged) follows s.store)
    c.print.ensures.answer

pub returns-in-Told-clause-stands : goal.returns-in-Told-clause-stands
returns-in-Told-clause-stands c = λ h s.
    let config = c.args.self.now.config in
    let x = c.args.item in
    let step = c.in_ok-message.ensures.stands config h s.session in
    let decided = rw c.in-Told.is at step.1 in
    let none : c.from_vec.result ≡ [] = search rules in
    (stands_none _ h x s.going s.ranged c.requires.range decided.0 step.0 s.store, fed_none config h x _ decided.0 (sym decided.1) none)

pub returns-clause-stands : goal.returns-clause-stands
returns-clause-stands c = λ h s.
    let config = c.args.self.now.config in
    let x = c.args.item in
    let m = Change c.in-Acted.change in
    let step = c.in_ok-message.ensures.stands config h s.session in
    let decided = rw c.in-Acted.is at step.1 in
    let follows = message-follows config h x m s.ranged c.requires.range decided.0 in
    ok_with c.print-in-Acted.result
    (λ fed printed answer.
    (stands_by _ h x m s.going s.ranged c.requires.range decided.0 step.0 printed.0, fed_by config h x m fed decided.0 (answer ∙ sym decided.1) printed.1))
    (c.print-in-Acted.ensures.stands (view config h) (view-is config h s.ranged) follows s.store)
    c.print-in-Acted.ensures.answer
