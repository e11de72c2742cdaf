use Rattle.std.proofs.Common.{ap, sym, ◌∙◌, refl}
use Rattle.std.specs.Prelude.{Some}
use Rattle.inbox.specs.Passes.{offered}
use Rattle.feeder.proofs.GoingLaws.{goes_equal, same_offered, same_back}
use Rattle.feeder.proofs.feeder.Feeder.step.Goals as goal

pub returns-in-Ok-clause-goes : goal.returns-in-Ok-clause-goes
returns-in-Ok-clause-goes g c =
    let old = c.args.self.now in
    goes_equal _ old.maker _ (offered old.pass) (offered c.offer.new.pass) refl refl refl refl
    (same_offered old.maker.next c.take.new.self (offered old.pass) (offered c.offer.new.pass) c.in-Some.load (sym c.take.ensures.value ∙ c.in-Some.is) c.take.ensures.after c.in-Ok.ensures.ok)

pub returns-in-Err-clause-goes : goal.returns-in-Err-clause-goes
returns-in-Err-clause-goes g c =
    let old = c.args.self.now in
    goes_equal _ old.maker _ (offered old.pass) (offered c.offer.new.pass) refl refl refl refl
    (same_back old.maker.next c.new.result (offered old.pass) (offered c.offer.new.pass) c.in-Some.load (sym c.take.ensures.value ∙ c.in-Some.is) (c.new.ensures ∙ ap Some c.in-Err.ensures.full.0) c.in-Err.ensures.full.1)
