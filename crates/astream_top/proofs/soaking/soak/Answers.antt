use Rattle.std.proofs.Common.{◌∙◌, ap, subst}
use Rattle.as_outside.specs.Makes.{Does}
use Rattle.soak.specs.Soaked.{items_of, soak_text}
use Rattle.astream_top.specs.Says.{SaysOnce}
use Rattle.astream_top.proofs.GenerationLaws.{all_taken}
use Rattle.astream_top.proofs.soaking.soak.Goals as goal

pub returns-in-Ok-soaked-clause-said : goal.returns-in-Ok-soaked-clause-said
returns-in-Ok-soaked-clause-said g c =
    let d = c.args.config in
    let h = items_of c.args.number c.args.lines d.streams in
    let text = c.deref.ensures.value ∙ c.in-Ok-soaked.ensures.text _ c.new-soak.ensures.soaked ∙ ap (λ e. soak_text e h) c.in-Ok.ensures.config in
    let said = subst (λ t. Does (g.D.Shelf.seen c.args.desk.now) (g.D.Shelf.seen c.say_once.new.desk) (SaysOnce t c.say_once.result)) text c.say_once.ensures.said in
    record { calls = said.calls; makes = said.makes; holds = (all_taken c.args.lines c.say_once.result c.soaked.new.soak.lines c.in-Ok-soaked.ensures.all, said.holds) }
