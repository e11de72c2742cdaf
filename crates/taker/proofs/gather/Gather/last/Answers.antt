use Rattle.std.proofs.Common.{ℕ, [], ◌∷◌, ◌++◌, sym, subst}
use Rattle.inbox.specs.declared.load.Load.{Load}
use Rattle.inbox.specs.declared.load.Load.TheVariants.{Last}
use Rattle.taker.specs.Gather.{IsAt}
use Rattle.taker.proofs.GatherLaws.{at-dropped, at-last}
use Rattle.taker.proofs.gather.Gather.last.Goals as goal

pub returns-in-Some-clause-at : goal.returns-in-Some-clause-at
returns-in-Some-clause-at g c = λ d t calls was.
    let p = c.args.self.now.taker.processor in
    let x : ℕ × Load = (c.args.feeder, Last c.args.ending) in
    subst (λ h. IsAt g.E.QueryEngine d h p (t ++ x ∷ []) calls) (sym c.in-Some.is)
    (at-dropped g.E.QueryEngine d c.in-Some.field-0 p t x calls (subst (λ h. IsAt g.E.QueryEngine d h p t calls) c.in-Some.is was))

pub returns-in-None-clause-at : goal.returns-in-None-clause-at
returns-in-None-clause-at g c = λ d t calls was.
    let p = c.args.self.now.taker.processor in
    subst (λ h. IsAt g.E.QueryEngine d h p (t ++ (c.args.feeder, Last c.args.ending) ∷ []) calls) (sym c.halt_by-self.ensures)
    (at-last g.E.QueryEngine d p t c.args.feeder c.args.ending calls (subst (λ h. IsAt g.E.QueryEngine d h p t calls) c.in-None.is was))
