use Rattle.std.proofs.Common.{◌≡◌, ◌++◌, length, refl, ap, ◌∙◌}
use Rattle.session.specs.Book.{numbers}
use Rattle.session.specs.View.{text_of}
use Rattle.session.specs.Shut.{shut}
use Rattle.service.specs.declared.stop.Stop.TheVariants.{NoMemory}
use Rattle.service.specs.AnswerText.{answers_text, last_text}
use Rattle.service.specs.Processor.{broken_in, IsLeftAmongEnds, HasTaken, IsFinished}
use Rattle.service.specs.Served.{HasServed}
use Rattle.service.specs.Stop.{Goes, IsCutShort, IsStoppedAtEnd}
use Rattle.service.proofs.GoesLaws.{goes_out, then, weaker}
use Rattle.service.proofs.ProcessedLaws.{served, stopped_among, stopped_last, finished}
use Rattle.service.proofs.processor.Processor.finish.Goals as goal

pub returns-in_err-end_all : goal.returns-in_err-end_all
returns-in_err-end_all g c = λ d h calls before.
    let p = c.end_all.new.self in
    let s = c.in_err-end_all.field-0.0 in
    goes_out _ _ calls _ s (IsFinished d p.lines (broken_in p) h) (λ s. IsStoppedAtEnd d s p.lines (broken_in p) h) c.from_residual.ensures.1
    (weaker _ _ calls (IsLeftAmongEnds d p (length h) h s) (IsStoppedAtEnd d s p.lines (broken_in p) h) (λ l u. stopped_among p h s l u)
    (c.in_err-end_all.ensures d (length h) h calls before))

pub returns-in_err-append_last : goal.returns-in_err-append_last
returns-in_err-append_last g c = λ d h calls before.
    let p = c.end_all.new.self in
    goes_out _ _ calls _ NoMemory (IsFinished d p.lines (broken_in p) h) (λ s. IsStoppedAtEnd d s p.lines (broken_in p) h) c.from_residual-in_err-append_last.ensures.1
    (weaker _ _ calls (HasTaken g.E.QueryEngine d p (length h) (shut d h)) (IsStoppedAtEnd d NoMemory p.lines (broken_in p) h)
    (λ l u. stopped_last p p h l u refl refl) (c.in_ok-end_all.ensures d (length h) h calls before))

pub returns : goal.returns
returns g c = λ d h calls before.
    let p = c.end_all.new.self in
    let broken = broken_in p in
    let text = c.deref.result.now in
    let last : text ≡ last_text broken p.lines = c.deref.ensures.value ∙ c.in_ok-append_last.ensures ∙ ap (λ t. t ++ last_text broken p.lines) c.clear.ensures.items in
    let Ends = Goes c.say.result (IsFinished d p.lines broken h) (λ s. IsStoppedAtEnd d s p.lines broken h) in
    let l = shut d h in
    then _ _ _ calls (HasTaken g.E.QueryEngine d p (length h) l) Ends (c.in_ok-end_all.ensures d (length h) h calls before)
    (λ all t. weaker _ _ all
    (Goes c.say.result (HasServed (numbers d l) (text_of d l) (answers_text d l ++ text) broken) (IsCutShort (numbers d l) (text_of d l) (answers_text d l) text broken)) Ends
    (λ q u. finished d h p.lines broken text c.say.result q t.left.counted last u)
    (c.say.ensures.calls (numbers d l) (text_of d l) (answers_text d l) broken all (served p (length h) l all t.left)))
