use Rattle.std.proofs.Common.{◌++◌, ◌∷◌, [], take, refl, subst, sym, append-nil}
use Rattle.as_words.specs.Prefix.{IsPrefix}
use Rattle.as_lineform.specs.Lines.{lines}
use Rattle.service.specs.declared.stop.Stop.TheVariants.{NoMemory}
use Rattle.service.specs.Processor.{broken_in, HasProcessed}
use Rattle.service.specs.Stop.{IsStopped}
use Rattle.service.proofs.GoesLaws.{no_call, goes_out, weaker}
use Rattle.service.proofs.ProcessedLaws.{stopped_before, stopped_further}
use Rattle.astream_top.specs.Run.{HasTaken, used_by, StopsIn}
use Rattle.astream_top.proofs.PullLaws.{with_both, lines-prefix, lines-so_far}
use Rattle.astream_top.proofs.run.take_line.Goals as goal

pub returns-in_err-used-clause-calls : goal.returns-in_err-used-clause-calls
returns-in_err-used-clause-calls g c = λ d before calls taken.
    let bytes = c.args.bytes.now in
    let p = c.args.run.now.processor in
    let r = with_both c.args.run.now c.take.new.self p in
    goes_out _ _ calls _ NoMemory (HasTaken g.E.QueryEngine d r (before ++ take (used_by c.from_residual.result) bytes)) (StopsIn d p (lines (before ++ bytes))) c.from_residual.ensures.1
    (no_call _ calls (StopsIn d p (lines (before ++ bytes)) NoMemory)
    (stopped_before p p (lines before) (lines (before ++ bytes)) calls taken.processed (lines-prefix before bytes) refl refl))

pub returns-in_err-process-in-Some-clause-calls : goal.returns-in_err-process-in-Some-clause-calls
returns-in_err-process-in-Some-clause-calls g c = λ d before calls taken.
    let bytes = c.args.bytes.now in
    let used = c.in_ok-used.used in
    let p = c.process.new.self in
    let s = c.in_err-process-in-Some.field-0.0 in
    let h = lines before ++ c.in-Some.item ∷ [] in
    let step = rw c.in-Some.is at (c.in_ok-used.ensures.reads before taken.reads) in
    let first = subst (λ l. IsPrefix l (lines (before ++ bytes))) step.1 (lines-so_far used before bytes) in
    goes_out _ _ calls _ s (HasTaken g.E.QueryEngine d (with_both c.args.run.now c.take.new.self p) (before ++ take (used_by c.from_residual-in_err-process-in-Some.result) bytes)) (StopsIn d p (lines (before ++ bytes)))
    c.from_residual-in_err-process-in-Some.ensures.1
    (weaker _ _ calls (IsStopped d s p.lines (broken_in p) h) (StopsIn d p (lines (before ++ bytes)) s)
    (λ all t. stopped_further d s p.lines (broken_in p) h (lines (before ++ bytes)) all first t)
    (c.in_err-process-in-Some.ensures.calls d (lines before) calls taken.processed))

pub returns-in_ok-process-in-Some-clause-calls : goal.returns-in_ok-process-in-Some-clause-calls
returns-in_ok-process-in-Some-clause-calls g c = λ d before calls taken.
    let bytes = c.args.bytes.now in
    let used = c.in_ok-used.used in
    let p = c.process.new.self in
    let h = lines before ++ c.in-Some.item ∷ [] in
    let step = rw c.in-Some.is at (c.in_ok-used.ensures.reads before taken.reads) in
    weaker _ _ calls (HasProcessed g.E.QueryEngine d p h) (HasTaken g.E.QueryEngine d (with_both c.args.run.now c.take.new.self p) (before ++ take used bytes))
    (λ all t. record { reads = step.0; processed = subst (λ l. HasProcessed g.E.QueryEngine d p l all) (sym step.1) t })
    (c.in_ok-process-in-Some.ensures.calls d (lines before) calls taken.processed)

pub returns-in-None-clause-calls : goal.returns-in-None-clause-calls
returns-in-None-clause-calls g c = λ d before calls taken.
    let p = c.args.run.now.processor in
    let step = rw c.in-None.is at (c.in_ok-used.ensures.reads before taken.reads) in
    no_call _ calls (HasTaken g.E.QueryEngine d (with_both c.args.run.now c.take.new.self p) (before ++ take c.in_ok-used.used c.args.bytes.now))
    (record { reads = step.0; processed = rw (step.1, append-nil) taken.processed })
