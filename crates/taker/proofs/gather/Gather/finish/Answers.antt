use Rattle.std.proofs.Common.{subst, inl, Err}
use Rattle.inbox.specs.Passes.{taken}
use Rattle.feeder.specs.Loads.{lines_of}
use Rattle.service.specs.Processor.{broken_in}
use Rattle.taker.specs.Gather.{IsAt, Ends}
use Rattle.taker.proofs.GatherLaws.{does_none, ends_well, ends_stopped}
use Rattle.taker.proofs.gather.Gather.finish.Goals as goal

pub returns-in-Some-clause-ends : goal.returns-in-Some-clause-ends
returns-in-Some-clause-ends g c = λ d calls was.
    let p = c.args.self.now.taker.processor in
    let t = taken c.args.self.now.pass in
    does_none _ calls (λ all. Ends d (Err c.in-Some.halt) p.lines (broken_in p) t all)
    (inl (subst (λ h. IsAt g.E.QueryEngine d h p t calls) c.in-Some.is was))

pub returns-in-Ok-clause-ends : goal.returns-in-Ok-clause-ends
returns-in-Ok-clause-ends g c = λ d calls was.
    let p = c.args.self.now.taker.processor in
    let t = taken c.args.self.now.pass in
    let going = subst (λ h. IsAt g.E.QueryEngine d h p t calls) c.in-None.is was in
    ends_well g.E.QueryEngine d p c.finish.new.self t _ _ calls going (c.in-Ok.ensures d (lines_of t) calls going.woven.processed)

pub returns-in-Err-clause-ends : goal.returns-in-Err-clause-ends
returns-in-Err-clause-ends g c = λ d calls was.
    let p = c.args.self.now.taker.processor in
    let t = taken c.args.self.now.pass in
    let going = subst (λ h. IsAt g.E.QueryEngine d h p t calls) c.in-None.is was in
    ends_stopped g.E.QueryEngine d p c.finish.new.self c.in-Err.stop t _ _ calls going
    (c.in-Err.ensures d (lines_of t) calls going.woven.processed)
