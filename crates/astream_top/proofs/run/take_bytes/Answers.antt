use Rattle.std.proofs.Common.{◌≡◌, ◌++◌, ◌-◌, ◌+◌, [], ℕ, List, take, drop, take_all, length, length-drop, ap, sym, subst, ◌∙◌, append_assoc, append-nil, arith}
use Rattle.std.proofs.Math.Seq.{take-add}
use Rattle.std.proofs.lemmas.List.{take-append-drop}
use Rattle.as_lineform.specs.Lines.{lines}
use Rattle.service.proofs.GoesLaws.{no_call, goes_out, then, weaker}
use Rattle.astream_top.specs.Run.{HasTaken, StopsIn}
use Rattle.astream_top.proofs.run.take_bytes.Goals as goal

-- what is left from a place on
left_from : (start : ℕ) (bytes : List ℕ) → take (length bytes - start) (drop start bytes) ≡ drop start bytes
left_from start bytes = take_all (length bytes - start) (drop start bytes) (omega (arith, length-drop start bytes))

-- some bytes more
seam : (start used : ℕ) (before bytes : List ℕ) → (before ++ take start bytes) ++ take used (take (length bytes - start) (drop start bytes)) ≡ before ++ take (start + used) bytes
seam start used before bytes =
    ap (λ l. (before ++ take start bytes) ++ take used l) (left_from start bytes)
    ∙ append_assoc before (take start bytes) (take used (drop start bytes))
    ∙ ap (λ l. before ++ l) (sym (take-add start used bytes))

-- all that is left
whole : (start : ℕ) (before bytes : List ℕ) → (before ++ take start bytes) ++ take (length bytes - start) (drop start bytes) ≡ before ++ bytes
whole start before bytes =
    ap (λ l. (before ++ take start bytes) ++ l) (left_from start bytes)
    ∙ append_assoc before (take start bytes) (drop start bytes)
    ∙ ap (λ l. before ++ l) (take-append-drop start bytes)

pub returns-in_err-used-clause-calls : goal.returns-in_err-used-clause-calls
returns-in_err-used-clause-calls g c = λ d before calls taken.
    let bytes = c.args.bytes.now in
    let start = c.lines.start in
    let part = before ++ take start bytes in
    let piece = take (length bytes - start) (drop start bytes) in
    let r = c.take_front.new.run in
    let s = c.in_err-used.field-0.0 in
    goes_out _ _ calls _ s (HasTaken g.E.QueryEngine d r (before ++ bytes)) (StopsIn d r.processor (lines (before ++ bytes))) c.from_residual.ensures.1
    (then _ _ _ calls (HasTaken g.E.QueryEngine d c.lines.run part) (StopsIn d r.processor (lines (before ++ bytes)) s) (c.lines.invariant.calls d before calls taken)
    (λ all t. weaker _ _ all (StopsIn d r.processor (lines (part ++ piece)) s) (StopsIn d r.processor (lines (before ++ bytes)) s)
    (λ l u. subst (λ b. StopsIn d r.processor (lines b) s l) (whole start before bytes) u)
    (c.in_err-used.ensures.calls d part all t)))

pub lines-preserved : goal.lines-preserved
lines-preserved g c =
    let bytes = c.args.bytes.now in
    let start = c.lines.start in
    let used = c.in_ok-used.used in
    let r = c.take_front.new.run in
    record {
      calls = λ d before calls taken.
          let part = before ++ take start bytes in
          let piece = take (length bytes - start) (drop start bytes) in
          then _ _ _ calls (HasTaken g.E.QueryEngine d c.lines.run part) (HasTaken g.E.QueryEngine d r (before ++ take (start + used) bytes)) (c.lines.invariant.calls d before calls taken)
          (λ all t. weaker _ _ all (HasTaken g.E.QueryEngine d r (part ++ take used piece)) (HasTaken g.E.QueryEngine d r (before ++ take (start + used) bytes))
          (λ l u. subst (λ b. HasTaken g.E.QueryEngine d r b l) (seam start used before bytes) u)
          (c.in_ok-used.ensures.calls d part all t));
      within = omega (arith, c.in_ok-used.ensures.within, length-drop start bytes);
      count = omega (arith, c.in_ok-used.ensures.count, c.in_ok-used.ensures.within, c.lines.invariant.count);
    }

pub lines-init : goal.lines-init
lines-init g c = record {
  calls = λ d before calls taken. no_call _ calls (HasTaken g.E.QueryEngine d c.args.run.now (before ++ [])) (rw append-nil taken);
  within = omega arith;
  count = omega arith;
}
