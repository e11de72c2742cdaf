use Rattle.std.proofs.Common.{◌++◌, ◌∷◌, [], refl, append-nil}
use Rattle.as_base.proofs.RangeLaws.{InRange-spelled}
use Rattle.as_lineform.specs.Lines.{rest, lines, items, last_item}
use Rattle.service.specs.declared.stop.Stop.TheVariants.{NoMemory}
use Rattle.service.specs.Processor.{broken_in, HasProcessed}
use Rattle.service.specs.Stop.{Goes, IsStopped}
use Rattle.service.proofs.GoesLaws.{no_call, goes_out, goes_weaker, weaker}
use Rattle.service.proofs.ProcessedLaws.{stopped_before}
use Rattle.astream_top.specs.Run.{StopsIn}
use Rattle.astream_top.proofs.run.take_last.Goals as goal

pub process-requires-clause-range : goal.process-requires-clause-range
process-requires-clause-range g c = InRange-spelled _ (rw c.in-Some.is at c.in_ok-item.ensures.range)

pub returns-in-None-clause-calls : goal.returns-in-None-clause-calls
returns-in-None-clause-calls g c = λ d bytes calls before.
    let step = rw c.in-None.is at (c.in_ok-item.ensures.reads bytes before.reads) in
    no_call _ calls (HasProcessed g.E.QueryEngine d c.args.run.now.processor (items bytes)) (rw (step.1, append-nil) before.processed)

pub returns-in-Some-clause-calls : goal.returns-in-Some-clause-calls
returns-in-Some-clause-calls g c = λ d bytes calls before.
    let e = g.E.QueryEngine in
    let step = rw c.in-Some.is at (c.in_ok-item.ensures.reads bytes before.reads) in
    let p = c.process.new.self in
    let h = lines bytes ++ c.in-Some.item ∷ [] in
    let Item-ends = Goes c.process.result (HasProcessed e d p h) (λ s. IsStopped d s p.lines (broken_in p) h) in
    let Last-ends = Goes c.process.result (HasProcessed e d p (items bytes)) (StopsIn d p (items bytes)) in
    weaker _ _ calls Item-ends Last-ends
    (goes_weaker c.process.result (HasProcessed e d p h) (HasProcessed e d p (items bytes)) (λ s. IsStopped d s p.lines (broken_in p) h) (StopsIn d p (items bytes))
    (λ all processed. rw step.1 processed) (λ s all stopped. rw step.1 stopped))
    (c.process.ensures.calls d (lines bytes) calls before.processed)

pub returns-in_err-item-clause-calls : goal.returns-in_err-item-clause-calls
returns-in_err-item-clause-calls g c = λ d bytes calls before.
    let p = c.args.run.now.processor in
    goes_out _ _ calls _ NoMemory (HasProcessed g.E.QueryEngine d p (items bytes)) (StopsIn d p (items bytes)) c.from_residual.ensures.1
    (no_call _ calls (StopsIn d p (items bytes) NoMemory)
    (stopped_before p p (lines bytes) (items bytes) calls before.processed (last_item (rest bytes), refl) refl refl))
