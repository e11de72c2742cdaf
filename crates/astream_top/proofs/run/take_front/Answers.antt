use Rattle.std.proofs.Common.{◌++◌, ◌∷◌, [], take, subst, sym}
use Rattle.as_base.specs.declared.item.Item.TheVariants.{Rec}
use Rattle.as_words.specs.Prefix.{IsPrefix}
use Rattle.as_lineform.specs.Lines.{lines}
use Rattle.service.specs.Processor.{broken_in, HasProcessed}
use Rattle.service.specs.Stop.{IsStopped}
use Rattle.service.proofs.GoesLaws.{goes_out, weaker}
use Rattle.service.proofs.ProcessedLaws.{stopped_further}
use Rattle.astream_top.specs.Run.{HasTaken, used_by, StopsIn}
use Rattle.astream_top.proofs.PullLaws.{with_both, lines-so_far}
use Rattle.astream_top.proofs.run.take_front.Goals as goal

pub returns-in_err-process_record-in-Some-clause-calls : goal.returns-in_err-process_record-in-Some-clause-calls
returns-in_err-process_record-in-Some-clause-calls g c = λ d before calls taken.
    let bytes = c.args.bytes.now in
    let p = c.process_record.new.self in
    let s = c.in_err-process_record-in-Some.field-0.0 in
    let h = lines before ++ Rec c.in-Some.given ∷ [] in
    let step = c.in-Some.ensures.reads before taken.reads in
    let first = subst (λ l. IsPrefix l (lines (before ++ bytes))) step.1 (lines-so_far c.in-Some.used before bytes) in
    goes_out _ _ calls _ s (HasTaken g.E.QueryEngine d (with_both c.args.run.now c.args.run.now.cutter p) (before ++ take (used_by c.from_residual.result) bytes)) (StopsIn d p (lines (before ++ bytes)))
    c.from_residual.ensures.1
    (weaker _ _ calls (IsStopped d s p.lines (broken_in p) h) (StopsIn d p (lines (before ++ bytes)) s)
    (λ all t. stopped_further d s p.lines (broken_in p) h (lines (before ++ bytes)) all first t)
    (c.in_err-process_record-in-Some.ensures.calls d (lines before) calls taken.processed))

pub returns-in_ok-process_record-in-Some-clause-calls : goal.returns-in_ok-process_record-in-Some-clause-calls
returns-in_ok-process_record-in-Some-clause-calls g c = λ d before calls taken.
    let bytes = c.args.bytes.now in
    let p = c.process_record.new.self in
    let h = lines before ++ Rec c.in-Some.given ∷ [] in
    let step = c.in-Some.ensures.reads before taken.reads in
    weaker _ _ calls (HasProcessed g.E.QueryEngine d p h) (HasTaken g.E.QueryEngine d (with_both c.args.run.now c.args.run.now.cutter p) (before ++ take c.in-Some.used bytes))
    (λ all t. record { reads = step.0; processed = subst (λ l. HasProcessed g.E.QueryEngine d p l all) (sym step.1) t })
    (c.in_ok-process_record-in-Some.ensures.calls d (lines before) calls taken.processed)
