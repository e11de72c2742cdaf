use Rattle.std.proofs.Common.{◌<◌, ◌++◌, refl, sym, ◌∙◌, subst}
use Rattle.std.specs.List.{AllByRecursion}
use Rattle.as_base.specs.Times.{times}
use Rattle.session.specs.Book.{numbers}
use Rattle.session.specs.View.{text_of}
use Rattle.session.specs.Shut.{end_of}
use Rattle.service.specs.declared.stop.Stop.TheVariants.{NoMemory}
use Rattle.service.specs.AnswerText.{answers_text}
use Rattle.service.specs.Processor.{broken_in, IsLeftBefore, HasTaken}
use Rattle.service.specs.Served.{HasServed, with_pieces}
use Rattle.service.proofs.GoesLaws.{no_call, goes_out, weaker}
use Rattle.service.proofs.ProcessedLaws.{served, no_end, pieces_known, ended, left_before, with_engine, with_broken}
use Rattle.service.proofs.processor.Processor.end.Goals as goal

pub returns-then-not-is_open-clause-calls : goal.returns-then-not-is_open-clause-calls
returns-then-not-is_open-clause-calls g c = λ d lines h calls before.
    let p = c.args.self.now in
    no_call _ calls (HasTaken g.E.QueryEngine d p lines (h ++ end_of d h c.args.stream))
    (no_end p lines h calls c.args.stream before (sym (c.is_open.ensures h before.stands) ∙ c.if-not-is_open.true))

pub returns-in_err-fed-clause-calls : goal.returns-in_err-fed-clause-calls
returns-in_err-fed-clause-calls g c = λ d lines h calls before.
    let p = with_engine c.args.self.now c.feed.new.self in
    goes_out _ _ calls _ NoMemory (HasTaken g.E.QueryEngine d p lines (h ++ end_of d h c.args.stream)) (IsLeftBefore d p lines h) c.from_residual.ensures.1
    (no_call _ calls (IsLeftBefore d p lines h NoMemory) (left_before c.args.self.now p lines h calls before refl refl))

pub returns-in_err-reserve-clause-calls : goal.returns-in_err-reserve-clause-calls
returns-in_err-reserve-clause-calls g c = λ d lines h calls before.
    let p = with_broken (with_engine c.args.self.now c.feed.new.self) c.reserve.new.self in
    goes_out _ _ calls _ NoMemory (HasTaken g.E.QueryEngine d p lines (h ++ end_of d h c.args.stream)) (IsLeftBefore d p lines h) c.from_residual-in_err-reserve.ensures.1
    (no_call _ calls (IsLeftBefore d p lines h NoMemory) (left_before c.args.self.now p lines h calls before refl c.in_err-reserve.ensures.same))

pub returns-clause-calls : goal.returns-clause-calls
returns-clause-calls g c = λ d lines h calls before.
    let old = c.args.self.now in
    let s = c.args.stream in
    let fed = c.in_ok-fed.fed in
    let stood = c.in_ok-fed.ensures.stands h before.stands in
    let opens = sym (c.is_open.ensures h before.stands) ∙ c.if-not-is_open.false in
    let same = c.as_slice-2.ensures in
    let p = with_broken (with_engine old c.feed.new.self) c.put_all.new.broken in
    let begun = subst (λ l. HasServed (numbers d h) (text_of d h) (answers_text d h) l calls) (sym c.in_ok-reserve.ensures.same) (served old lines h calls before.left) in
    let known = subst (λ l. AllByRecursion (λ q. 0 < times q.n (numbers d h)) l) (sym same) (pieces_known old lines h calls s fed before opens stood.1) in
    weaker _ _ calls (HasServed (numbers d h) (with_pieces (text_of d h) c.as_slice-2.result.now) (answers_text d h) (broken_in p)) (HasTaken g.E.QueryEngine d p lines (h ++ end_of d h s))
    (λ l u. ended old lines h calls s fed before opens stood.1 p l stood.0 c.in_ok-fed.ensures.config refl
    (subst (λ ps. HasServed (numbers d h) (with_pieces (text_of d h) ps) (answers_text d h) (broken_in p) l) same u))
    (c.put_all.ensures (numbers d h) (text_of d h) (answers_text d h) calls begun known)
