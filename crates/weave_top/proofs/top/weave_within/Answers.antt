use Rattle.std.proofs.Common.{refl}
use Rattle.as_outside.specs.Makes.{Does}
use Rattle.weave_top.specs.Fed.{WentThrough}
use Rattle.weave_top.specs.Ends.{IsWoven}
use Rattle.weave_top.proofs.EndingLaws.{ends_so, at_some}
use Rattle.weave_top.proofs.CauseLaws.{caused}
use Rattle.weave_top.proofs.top.weave_within.Goals as goal

pub returns-clause-through : goal.returns-clause-through
returns-clause-through g c = rw (c.report.ensures, c.unpack-sources.ensures.all)
    (at_some (λ closed. WentThrough c.args.weaving.limit _ _ closed) c.weave_on.result.closed (c.weave_on.ensures.through c.args.weaving c.in-Ok.ensures))

pub returns-clause-woven : goal.returns-clause-woven
returns-clause-woven g c = rw c.report.ensures
    (at_some (λ closed. Does _ _ (IsWoven c.args.weaving.config _ _ _ _ closed)) c.weave_on.result.closed
    (ends_so c.args.weaving.config c.args.weaving.limit _ _ c.weave_on.result.outcome _ _ c.weave_on.result.closed _ _ refl
    c.weave_on.result.processor.broken.rising (c.weave_on.ensures.through c.args.weaving c.in-Ok.ensures) c.weave_on.ensures.fed
    (c.weave_on.ensures.ends c.args.weaving c.in-Ok.ensures)))

pub returns-clause-causes : goal.returns-clause-causes
returns-clause-causes g c = rw c.report.ensures
    (caused c.args.weaving.config _ _ _ _ c.weave_on.result.closed _ _
    (ends_so c.args.weaving.config c.args.weaving.limit _ _ c.weave_on.result.outcome _ _ c.weave_on.result.closed _ _ refl
    c.weave_on.result.processor.broken.rising (c.weave_on.ensures.through c.args.weaving c.in-Ok.ensures) c.weave_on.ensures.fed
    (c.weave_on.ensures.ends c.args.weaving c.in-Ok.ensures)))
