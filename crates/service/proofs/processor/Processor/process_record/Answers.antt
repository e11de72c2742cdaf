use Rattle.std.proofs.Common.{◌++◌, ◌∷◌, [], refl, sym, ◌∙◌, subst}
use Rattle.as_base.specs.declared.item.Item.TheVariants.{Rec}
use Rattle.session.specs.Book.{numbers}
use Rattle.session.specs.View.{text_of}
use Rattle.session.specs.Outcome.{only_told}
use Rattle.service.specs.declared.stop.Stop.TheVariants.{NoMemory}
use Rattle.service.specs.AnswerText.{answers_text}
use Rattle.service.specs.Processor.{broken_in, HasPrepared, HasProcessed}
use Rattle.service.specs.Served.{HasServed}
use Rattle.service.specs.Stop.{Goes, IsCutShort, IsStopped}
use Rattle.service.proofs.GoesLaws.{no_call, goes_out, weaker}
use Rattle.service.proofs.ProcessedLaws.{served, stopped_before, processed, record_served}
use Rattle.service.proofs.processor.Processor.process_record.Goals as goal

pub returns-in_err-prepare_record-clause-calls : goal.returns-in_err-prepare_record-clause-calls
returns-in_err-prepare_record-clause-calls g c = λ d h calls before.
    let x = Rec c.args.given.now in
    let p = c.prepare_record.new.self in
    goes_out _ _ calls _ NoMemory (HasProcessed g.E.QueryEngine d p (h ++ x ∷ [])) (λ s. IsStopped d s p.lines (broken_in p) (h ++ x ∷ [])) c.from_residual.ensures.1
    (no_call _ calls (IsStopped d NoMemory p.lines (broken_in p) (h ++ x ∷ []))
    (stopped_before c.args.self.now p h (h ++ x ∷ []) calls before (x ∷ [], refl) c.in_err-prepare_record.ensures.lines c.in_err-prepare_record.ensures.broken))

pub returns-clause-calls : goal.returns-clause-calls
returns-clause-calls g c = λ d h calls before.
    let e = g.E.QueryEngine in
    let answer = c.in_ok-prepare_record.field-0 in
    let given = c.args.given.now in
    let x = Rec given in
    let h' = h ++ x ∷ [] in
    let p = c.prepare_record.new.self in
    let ready = subst (λ k. HasPrepared e k p h x (only_told answer)) before.config (c.in_ok-prepare_record.ensures.prepared h before.stands) in
    let begun = subst (λ l. HasServed (numbers d h) (text_of d h) (answers_text d h) l calls) (sym c.in_ok-prepare_record.ensures.broken) (served c.args.self.now _ h calls before.left) in
    let text = c.deref.result.now in
    let Ends = Goes c.say.result (HasProcessed e d p h') (λ s. IsStopped d s p.lines (broken_in p) h') in
    weaker _ _ calls
    (Goes c.say.result (HasServed (numbers d h') (text_of d h') (answers_text d h ++ text) (broken_in p)) (IsCutShort (numbers d h') (text_of d h') (answers_text d h) text (broken_in p))) Ends
    (λ l u. processed p p h x (only_told answer) text c.say.result l ready (c.in_ok-prepare_record.ensures.config ∙ before.config) ready.stands refl c.deref.ensures.value u)
    (c.say.ensures.calls (numbers d h') (text_of d h') (answers_text d h) (broken_in p) calls (record_served d h given answer (broken_in p) calls ready.is_fed begun))
