use Rattle.std.proofs.Common.{None, Some, refl, sym}
use Rattle.as_base.specs.declared.item.Item.TheVariants.{Rec}
use Rattle.as_base.specs.declared.item.Record.{Record}
use Rattle.as_base.specs.declared.message.Msg.TheVariants as msg
use Rattle.session.specs.Outcome.{only_told}
use Rattle.session.specs.View.{view}
use Rattle.session.proofs.FollowLaws.{message-follows, view-is}
use Rattle.plain_engine.proofs.EngineLaws.{grows_none, fed_by, fed_none, stands_by, stands_none}
use Rattle.plain_engine.proofs.engine.PlainEngineQueryEngine.feed_record.Goals as goal

pub returns-in-Ok-take_record-clause-stands : goal.returns-in-Ok-take_record-clause-stands
returns-in-Ok-take_record-clause-stands c = λ h s.
    let config = c.args.self.now.config in
    let given = c.args.given.now in
    let x = Rec given in
    let r : Record = record { seq = c.in-Ok.field-0; given = given } in
    let step = c.in-Ok.ensures.stands config h s.session in
    let decided = step.1 in
    let follows = message-follows config h x (msg.Rec r) s.ranged c.requires.range decided.0 in
    let kept = c.in-Ok-take_record.ensures (view config h) r refl (view-is config h s.ranged) follows s.store in
    (stands_by _ h x (msg.Rec r) s.going s.ranged c.requires.range decided.0 step.0 kept.0, fed_by config h x (msg.Rec r) (only_told None) decided.0 (sym decided.1) (grows_none (view config h) _ kept.1))

pub returns-in-Err-clause-stands : goal.returns-in-Err-clause-stands
returns-in-Err-clause-stands c = λ h s.
    let config = c.args.self.now.config in
    let x = Rec c.args.given.now in
    let step = c.in-Err.ensures.stands config h s.session in
    let decided = step.1 in
    (stands_none _ h x s.going s.ranged c.requires.range decided.0 step.0 s.store, fed_none config h x (only_told (Some c.in-Err.refusal)) decided.0 (sym decided.1) refl)
