use Rattle.std.proofs.Common.{◌∙◌, refl}
use Rattle.inbox.specs.Passes.{offered}
use Rattle.feeder.proofs.GoingLaws.{goes_refl, goes_after}
use Rattle.feeder.proofs.feeder.Feeder.run.Goals as goal

pub returns-then-load-clause-goes : goal.returns-then-load-clause-goes
returns-then-load-clause-goes g c = goes_refl _ c.args.self.maker (offered c.args.self.pass)

pub loop-init : goal.loop-init
loop-init g c = record {
  next = (tt, tt);
  inbox = c.requires.inbox;
  same = (refl, refl);
  goes = goes_refl _ c.args.self.maker (offered c.args.self.pass);
}

pub loop-preserved : goal.loop-preserved
loop-preserved g c =
    let was = c.loop.invariant in
    let step = c.step-got_on.ensures in
    record {
      next = (tt, tt);
      inbox = step.same.0 ∙ was.inbox;
      same = (step.same.0 ∙ was.same.0, step.same.1 ∙ was.same.1);
      goes = goes_after _ _ _ c.args.self.maker c.loop.self.maker c.step-got_on.new.self.maker (offered c.args.self.pass) (offered c.loop.self.pass) (offered c.step-got_on.new.self.pass) was.goes step.goes;
    }
