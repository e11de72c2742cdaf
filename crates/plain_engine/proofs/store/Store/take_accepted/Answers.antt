use Rattle.std.proofs.Common.{refl, sym, subst, ◌∙◌}
use Rattle.as_base.specs.declared.message.Msg.TheVariants as msg
use Rattle.views.specs.Message.{after}
use Rattle.plain_engine.specs.Store.{GrowsBy}
use Rattle.plain_engine.proofs.StepLaws.{grows-none}
use Rattle.plain_engine.proofs.store.Store.take_accepted.Goals as goal

pub returns-clause-stands : goal.returns-clause-stands
returns-clause-stands c = λ v is f stands.
    let r = c.args.accepted.now in
    let p = c.in_ok-take_record.ensures v r refl is f stands in
    (p.0, subst (GrowsBy v (after v (msg.Rec r))) (sym (c.from_vec.ensures ∙ c.new.ensures.items)) (grows-none v (msg.Rec r) is f (λ n. refl)))
