use Rattle.std.proofs.Common.{◌+◌, sym, subst}
use Rattle.as_base.specs.declared.item.Item.TheVariants.{Bad}
use Rattle.session.specs.declared.decision.Decision.TheVariants.{Told}
use Rattle.session.specs.Decision.{IsDecided}
use Rattle.session.proofs.StepLaws.{stands-in, stands-out, bad-step}
use Rattle.session.proofs.session.Session.take_bad.Goals as goal

pub returns-clause-stands : goal.returns-clause-stands
returns-clause-stands c = λ config h s.
    let p = bad-step c.args.cause (stands-in s) in
    (stands-out _ _ _ p.0, subst (λ w. IsDecided config h (Bad c.args.cause) (Told (record { line = c.args.self.now.items + 1; word = w }))) (sym c.refusal_of_cause.ensures) p.1)
