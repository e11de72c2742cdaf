use Rattle.std.proofs.Common.{inl, inr}
use Rattle.as_lineform.specs.Lines.{items}
use Rattle.service.specs.Processor.{broken_in, HasProcessed, IsFinished}
use Rattle.service.specs.Stop.{Goes, IsStoppedAtEnd}
use Rattle.service.proofs.GoesLaws.{goes_out, goes_weaker, then, weaker}
use Rattle.astream_top.specs.Run.{StopsIn, StopsByEnd}
use Rattle.astream_top.proofs.run.end.Goals as goal

pub returns-in_err-take_last : goal.returns-in_err-take_last
returns-in_err-take_last g c = λ d bytes calls before.
    let h = items bytes in
    let p = c.take_last.new.run.processor in
    let s = c.in_err-take_last.field-0.0 in
    goes_out _ _ calls _ s (IsFinished d p.lines (broken_in p) h) (StopsByEnd d p h) c.from_residual.ensures.1
    (weaker _ _ calls (StopsIn d p h s) (StopsByEnd d p h s) (λ all t. inl t) (c.in_err-take_last.ensures.calls d bytes calls before))

pub returns : goal.returns
returns g c = λ d bytes calls before.
    let h = items bytes in
    let p = c.finish.new.self in
    let Last = Goes c.finish.result (IsFinished d p.lines (broken_in p) h) (StopsByEnd d p h) in
    then _ _ _ calls (HasProcessed g.E.QueryEngine d c.take_last.new.run.processor h) Last (c.in_ok-take_last.ensures.calls d bytes calls before)
    (λ all t. weaker _ _ all (Goes c.finish.result (IsFinished d p.lines (broken_in p) h) (λ s. IsStoppedAtEnd d s p.lines (broken_in p) h)) Last
    (goes_weaker c.finish.result (IsFinished d p.lines (broken_in p) h) (IsFinished d p.lines (broken_in p) h) (λ s. IsStoppedAtEnd d s p.lines (broken_in p) h) (StopsByEnd d p h)
    (λ l u. u) (λ s l u. inr u))
    (c.finish.ensures d h all t))
