use Rattle.std.proofs.Common.{[], ◌∷◌, ◌+◌, ◌≤◌, ◌≡◌, ◌∙◌, ap, take, arith, length, sym}
use Rattle.std.proofs.lemmas.List.{length-take-le, take-take}
use Rattle.std.proofs.lemmas.Result.{err_from_is_err_and}
use Rattle.as_outside.specs.declared.entry.Entry.TheVariants.{Pulled, PullFailed}
use Rattle.as_outside.proofs.MakesLaws.{makes_after}
use Rattle.astream_top.proofs.PullLaws.{cut_off, taken_after, stopped_after, took_all, took_part, still_emptied, part_within}
use Rattle.astream_top.proofs.run.pull_once.Goals as goal

pub returns-in_err-pulled-clause-calls : goal.returns-in_err-pulled-clause-calls
returns-in_err-pulled-clause-calls g c = λ d calls at.
    let p = err_from_is_err_and c.from_residual.result c.from_residual.ensures.1 in
    record {
      calls = PullFailed ∷ [];
      makes = c.in_err-pulled.ensures.err.1;
      holds = rw (p.1, p.2, c.in_err-pulled.ensures.err.0) (cut_off c.args.run.now c.args.most calls at);
    }

pub returns-in_err-take_bytes-clause-calls : goal.returns-in_err-take_bytes-clause-calls
returns-in_err-take_bytes-clause-calls g c = λ d calls at.
    let x = take c.in_ok-pulled.pulled c.pull.new.buf in
    let taken = c.in_err-take_bytes.ensures.calls _ _ _ (taken_after c.args.run.now calls x at) in
    let p = err_from_is_err_and c.from_residual-in_err-take_bytes.result c.from_residual-in_err-take_bytes.ensures.1 in
    record {
      calls = Pulled x ∷ taken.calls;
      makes = makes_after _ _ _ _ _ c.in_ok-pulled.ensures.ok taken.makes;
      holds = rw (p.1, p.2) (stopped_after c.args.run.now c.take_bytes.new.run c.in_err-take_bytes.field-0.0 c.args.most calls taken.calls x _ at taken.holds.0
          (part_within c.in_ok-pulled.pulled c.args.most c.min-within.result c.pull.new.buf (omega (arith, c.min-within.ensures))) taken.holds.1);
    }

pub returns-then-within-pulled-clause-calls : goal.returns-then-within-pulled-clause-calls
returns-then-within-pulled-clause-calls g c = λ d calls at.
    let room : c.in_ok-pulled.pulled ≤ length c.pull.new.buf = omega (arith, c.in_ok-pulled.ensures.room, c.in_ok-pulled.ensures.size) in
    let cut : c.min-within.result ≡ c.args.most = omega (arith, c.min-within.ensures) in
    let one-more : c.in_ok-pulled.pulled ≡ c.args.most + 1 = omega (arith, c.min-within.ensures, c.in_ok-pulled.ensures.room) in
    let x = take c.in_ok-pulled.pulled c.pull.new.buf in
    let taken = c.in_ok-take_bytes.ensures.calls _ _ _ (taken_after c.args.run.now calls x at) in
    record {
      calls = Pulled x ∷ taken.calls;
      makes = makes_after _ _ _ _ _ c.in_ok-pulled.ensures.ok taken.makes;
      holds = took_part c.args.run.now c.take_bytes.new.run c.args.most calls taken.calls x _ at taken.holds.0 taken.holds.1
          (ap (λ n. take n c.pull.new.buf) cut ∙ sym (take-take c.args.most c.in_ok-pulled.pulled c.pull.new.buf (omega arith)))
          (length-take-le c.in_ok-pulled.pulled c.pull.new.buf room ∙ one-more);
    }

pub returns-clause-calls : goal.returns-clause-calls
returns-clause-calls g c = λ d calls at.
    let room : c.in_ok-pulled.pulled ≤ length c.pull.new.buf = omega (arith, c.in_ok-pulled.ensures.room, c.in_ok-pulled.ensures.size) in
    let whole : c.min-within.result ≡ c.in_ok-pulled.pulled = omega (arith, c.min-within.ensures) in
    let x = take c.in_ok-pulled.pulled c.pull.new.buf in
    let taken = c.in_ok-take_bytes.ensures.calls _ _ _ (taken_after c.args.run.now calls x at) in
    record {
      calls = Pulled x ∷ taken.calls;
      makes = makes_after _ _ _ _ _ c.in_ok-pulled.ensures.ok taken.makes;
      holds = took_all c.args.run.now c.take_bytes.new.run c.in_ok-pulled.pulled calls taken.calls x _ at taken.holds.0 taken.holds.1
          (ap (λ n. take n c.pull.new.buf) whole) (length-take-le c.in_ok-pulled.pulled c.pull.new.buf room);
    }

pub returns-clause-emptied : goal.returns-clause-emptied
returns-clause-emptied g c = λ d calls at empty.
    let x = take c.in_ok-pulled.pulled c.pull.new.buf in
    let taken = c.in_ok-take_bytes.ensures.calls _ _ _ (taken_after c.args.run.now calls x at) in
    still_emptied _ _ taken.calls taken.makes taken.holds.0 (c.in_ok-pulled.ensures.emptied empty)
