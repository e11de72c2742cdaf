use Rattle.std.proofs.Common.{refl, sym, subst, ◌∙◌}
use Rattle.as_base.specs.declared.message.Msg.TheVariants as msg
use Rattle.views.specs.Message.{after}
use Rattle.plain_engine.specs.Store.{GrowsBy}
use Rattle.plain_engine.proofs.StepLaws.{grows-none}
use Rattle.plain_engine.proofs.store.Store.take_change.Goals as goal

pub returns-clause-stands : goal.returns-clause-stands
returns-clause-stands c = λ v is f stands.
    let m = msg.Change c.args.change.now in
    (c.in_ok-change.ensures v is f stands, subst (GrowsBy v (after v m)) (sym (c.from_vec.ensures ∙ c.new.ensures.items)) (grows-none v m is f (λ n. refl)))
