use Rattle.std.proofs.Common.{ℕ, [], ◌∷◌, ◌++◌, sym, subst}
use Rattle.inbox.specs.declared.load.Load.{Load}
use Rattle.inbox.specs.declared.load.Load.TheVariants.{Line}
use Rattle.taker.specs.Gather.{IsAt}
use Rattle.taker.proofs.GatherLaws.{does_none, at-dropped}
use Rattle.taker.proofs.gather.Gather.line.Goals as goal

pub returns-in-Some-clause-at : goal.returns-in-Some-clause-at
returns-in-Some-clause-at g c = λ d t n calls was.
    let p = c.args.self.now.taker.processor in
    let x : ℕ × Load = (n, Line c.args.item) in
    let now = at-dropped g.E.QueryEngine d c.in-Some.field-0 p t x calls
    (subst (λ h. IsAt g.E.QueryEngine d h p t calls) c.in-Some.is was) in
    does_none _ calls (λ all. IsAt g.E.QueryEngine d c.args.self.now.halt p (t ++ x ∷ []) all)
    (subst (λ h. IsAt g.E.QueryEngine d h p (t ++ x ∷ []) calls) (sym c.in-Some.is) now)

pub returns-in-None-clause-at : goal.returns-in-None-clause-at
returns-in-None-clause-at g c = λ d t n calls was.
    c.weave.ensures.at d t n calls (subst (λ h. IsAt g.E.QueryEngine d h c.args.self.now.taker.processor t calls) c.in-None.is was)
