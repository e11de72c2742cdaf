use Rattle.std.proofs.Common.{◌≡◌, ℕ, [], ◌∷◌, ◌++◌, sym, subst, ap, ◌∙◌}
use Rattle.as_outside.specs.Makes.{Does}
use Rattle.inbox.specs.Passes.{taken}
use Rattle.inbox.specs.declared.load.Load.{Load}
use Rattle.inbox.specs.declared.load.Load.TheVariants.{Line, Last}
use Rattle.taker.specs.Gather.{IsAt}
use Rattle.taker.proofs.GatherLaws.{does_none}
use Rattle.taker.proofs.gather.Gather.take.Goals as goal

pub returns-in-None-clause-at : goal.returns-in-None-clause-at
returns-in-None-clause-at g c = λ d calls was.
    let h = c.args.self.now.halt in
    let p = c.args.self.now.taker.processor in
    does_none _ calls (λ all. IsAt g.E.QueryEngine d h p (taken c.take.new.pass) all)
    (subst (λ t. IsAt g.E.QueryEngine d h p t calls) (sym c.in-None.ensures.none.0) was)

pub returns-in-Some-default-Line-clause-at : goal.returns-in-Some-default-Line-clause-at
returns-in-Some-default-Line-clause-at g c = λ d calls was.
    let some = rw c.in-Some-default-Line.field-0-1-is at c.in-Some-default-Line.ensures.some in
    let n = c.in-Some-default-Line.field-0-0 in
    let t = taken c.args.self.now.pass in
    let now : taken c.line.new.self.pass ≡ t ++ (n, Line c.in-Some-default-Line.item) ∷ [] = ap taken c.line.ensures.pass ∙ some.3 in
    subst
    (λ l. Does (g.K.Shelf.seen c.args.shelf.now) (g.K.Shelf.seen c.line.new.shelf)
    (λ more. IsAt g.E.QueryEngine d c.line.new.self.halt c.line.new.self.taker.processor l (calls ++ more)))
    (sym now) (c.line.ensures.at d t n calls was)

pub returns-in-Some-default-Last-clause-at : goal.returns-in-Some-default-Last-clause-at
returns-in-Some-default-Last-clause-at g c = λ d calls was.
    let some = rw c.in-Some-default-Last.field-0-1-is at c.in-Some-default-Last.ensures.some in
    let t = taken c.args.self.now.pass in
    let x : ℕ × Load = (c.in-Some-default-Last.feeder, Last c.in-Some-default-Last.ending) in
    let now : taken c.last.new.self.pass ≡ t ++ x ∷ [] = ap taken c.last.ensures.pass ∙ some.3 in
    does_none _ calls (λ all. IsAt g.E.QueryEngine d c.last.new.self.halt c.last.new.self.taker.processor (taken c.last.new.self.pass) all)
    (subst (λ l. IsAt g.E.QueryEngine d c.last.new.self.halt c.last.new.self.taker.processor l calls) (sym now)
    (c.last.ensures.at d t calls was))
