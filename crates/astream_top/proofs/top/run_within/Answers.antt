use Rattle.std.proofs.Common.{[], ap, subst, ◌∙◌}
use Rattle.as_outside.specs.Makes.{Does}
use Rattle.as_outside.proofs.MakesLaws.{makes_none}
use Rattle.service.specs.Processor.{broken_in}
use Rattle.plain_engine.specs.declared.engine.PlainEngine.{PlainEngine}
use Rattle.astream_top.specs.Run.{ended_by, RunEnds, IsEmptied}
use Rattle.astream_top.proofs.CauseLaws.{caused, read, not_stopped}
use Rattle.astream_top.proofs.PullLaws.{ended_early}
use Rattle.astream_top.proofs.top.run_within.Goals as goal

pub returns-in-Err-clause-ended : goal.returns-in-Err-clause-ended
returns-in-Err-clause-ended g c = rw c.plain_report.ensures (record { calls = []; makes = makes_none _; holds = ended_early c.args.config c.args.limit })

pub returns-in-Err-start-clause-ended : goal.returns-in-Err-start-clause-ended
returns-in-Err-start-clause-ended g c = rw c.plain_report-in-Err-start.ensures (record { calls = []; makes = makes_none _; holds = ended_early c.args.config c.args.limit })

pub returns-clause-causes : goal.returns-clause-causes
returns-clause-causes g c =
    let config = ap (λ (e : PlainEngine). e.config) c.in-Ok-start.ensures.same ∙ c.in-Ok.ensures.config in
    let p = c.run_all-outcome.new.run.processor in
    let status = ended_by c.run_all-outcome.result (broken_in p) in
    let ended = subst (λ d. Does (g.D.Shelf.seen c.args.desk.now) (g.D.Shelf.seen c.run_all-outcome.new.desk) (RunEnds d c.args.limit p status)) config c.run_all-outcome.ensures.ended in
    rw c.report.ensures (caused c.args.config c.args.limit p.lines status (broken_in p) _ _ ended)

pub returns-clause-read : goal.returns-clause-read
returns-clause-read g c = λ input is.
    let config = ap (λ (e : PlainEngine). e.config) c.in-Ok-start.ensures.same ∙ c.in-Ok.ensures.config in
    let p = c.run_all-outcome.new.run.processor in
    let result = c.run_all-outcome.result in
    let status = ended_by result (broken_in p) in
    let last = g.D.Shelf.seen c.run_all-outcome.new.desk in
    let ended = subst (λ d. Does (g.D.Shelf.seen c.args.desk.now) last (RunEnds d c.args.limit p status)) config c.run_all-outcome.ensures.ended in
    rw c.report.ensures (read c.args.config c.args.limit p.lines status (broken_in p) input _ last ended (not_stopped result (broken_in p) (IsEmptied last) c.run_all-outcome.ensures.emptied) is)
