use Rattle.std.proofs.Common.{◌++◌, ◌≤◌, subst, arith, length}
use Rattle.std.proofs.lemmas.Result.{err_from_is_err_and}
use Rattle.as_outside.specs.Log.{pulled}
use Rattle.as_outside.proofs.MakesLaws.{makes_after}
use Rattle.astream_top.specs.Run.{status_of, RunEnds, IsEmptied}
use Rattle.astream_top.proofs.PullLaws.{ended, still_emptied, on_ok}
use Rattle.astream_top.proofs.run.run_all.Goals as goal

pub returns-in_err-pulled-clause-ended : goal.returns-in_err-pulled-clause-ended
returns-in_err-pulled-clause-ended g c =
    let so-far = c.pulls.invariant.calls in
    let last = c.in_err-pulled.ensures.calls _ so-far.calls so-far.holds.0 in
    let p = err_from_is_err_and c.from_residual.result c.from_residual.ensures.1 in
    record {
      calls = so-far.calls ++ last.calls;
      makes = makes_after _ _ _ _ _ so-far.makes last.makes;
      holds = rw (p.1, p.2) (subst (λ n. RunEnds (g.E.QueryEngine.config c.args.run.now.processor.engine) n c.pull_once.new.run.processor (status_of c.in_err-pulled.field-0.0) (so-far.calls ++ last.calls)) so-far.holds.1 last.holds);
    }

pub returns-then-pulled-eq0-clause-ended : goal.returns-then-pulled-eq0-clause-ended
returns-then-pulled-eq0-clause-ended g c =
    let so-far = c.pulls.invariant.calls in
    let once = c.in_ok-pulled.ensures.calls _ so-far.calls so-far.holds.0 in
    let all = so-far.calls ++ once.calls in
    let finish = c.end.ensures _ _ all once.holds.0.taken in
    let fits : length (pulled all) ≤ c.args.limit = omega (arith, so-far.holds.1, once.holds.1) in
    record {
      calls = all ++ finish.calls;
      makes = makes_after _ _ _ _ _ (makes_after _ _ _ _ _ so-far.makes once.makes) finish.makes;
      holds = ended c.pull_once.new.run c.end.new.run c.args.limit c.end.result all finish.calls once.holds.0 fits (once.holds.2 c.if-pulled-eq0.true) finish.holds.0 finish.holds.1;
    }

pub returns-then-pulled-eq0-clause-emptied : goal.returns-then-pulled-eq0-clause-emptied
returns-then-pulled-eq0-clause-emptied g c =
    let so-far = c.pulls.invariant.calls in
    let once = c.in_ok-pulled.ensures.calls _ so-far.calls so-far.holds.0 in
    let finish = c.end.ensures _ _ (so-far.calls ++ once.calls) once.holds.0.taken in
    let emptied = c.in_ok-pulled.ensures.emptied _ so-far.calls so-far.holds.0 c.if-pulled-eq0.true in
    on_ok c.end.result (IsEmptied (g.D.Shelf.seen c.end.new.desk)) (still_emptied _ _ finish.calls finish.makes finish.holds.0 emptied)

pub pulls-preserved : goal.pulls-preserved
pulls-preserved g c =
    let so-far = c.pulls.invariant.calls in
    let once = c.in_ok-pulled.ensures.calls _ so-far.calls so-far.holds.0 in
    record {
      calls = record {
        calls = so-far.calls ++ once.calls;
        makes = makes_after _ _ _ _ _ so-far.makes once.makes;
        holds = (once.holds.0, omega (arith, so-far.holds.1, once.holds.1, c.in_ok-pulled.ensures.room));
      };
      count = omega (arith, c.pulls.invariant.count, c.in_ok-pulled.ensures.count, c.in_ok-pulled.ensures.room);
    }
