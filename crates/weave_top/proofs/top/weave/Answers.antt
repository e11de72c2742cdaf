use Rattle.std.proofs.Common.{map, ◌∙◌}
use Rattle.as_outside.specs.Makes.{Does}
use Rattle.weave_top.specs.declared.weaving.Weaving.{Weaving}
use Rattle.weave_top.specs.Fed.{WentThrough}
use Rattle.weave_top.specs.Ends.{IsWoven}
use Rattle.weave_top.proofs.EndingLaws.{at_some}
use Rattle.weave_top.proofs.top.weave.Goals as goal

pub returns-in-Some-clause-through : goal.returns-in-Some-clause-through
returns-in-Some-clause-through g c = λ w closed is there.
    let r = c.weave_within.result in
    at_some (λ (v : Weaving). WentThrough v.limit (map g.F.Source.seen c.args.feeds.items) (map g.F.Source.seen r.feeds) closed)
    c.in-Some.weaving
    (c.weave_within.ensures.through closed there) w (c.in-Some.ensures.value ∙ is)

pub returns-in-Some-clause-woven : goal.returns-in-Some-clause-woven
returns-in-Some-clause-woven g c = λ w closed is there.
    let r = c.weave_within.result in
    let seen = g.K.Shelf.seen in
    at_some
    (λ (v : Weaving). Does (seen c.args.shelf.now) (seen c.weave_within.new.shelf)
    (IsWoven v.config r.status r.lines r.broken r.feeder closed))
    c.in-Some.weaving
    (c.weave_within.ensures.woven closed there) w (c.in-Some.ensures.value ∙ is)
