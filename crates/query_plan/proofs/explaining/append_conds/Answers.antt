use Rattle.std.proofs.Common.{◌≡◌, ap, ◌∙◌, ◌++◌, ◌+◌, arith, to_z, of_z, w64}
use Rattle.std.proofs.lemmas.Int.{ints, to_z-of_z}
use Rattle.as_base.specs.Query.{at}
use Rattle.as_words.proofs.AppendsLaws.{AppendsPrefix-stopped}
use Rattle.query_text.specs.Spelling.{conds_words}
use Rattle.as_words.specs.Words.{spaced}
use Rattle.query_plan.specs.Text.{conds_of_interval, conds_of}
use Rattle.query_plan.proofs.TextLaws.{rest_text, conds_split, first_conds, first_conds-all, conds_more}
use Rattle.query_plan.proofs.explaining.append_conds.Goals as goal

pub returns-in_err-append_interval : goal.returns-in_err-append_interval
returns-in_err-append_interval c =
    let b = c.args.bounds.now in
    let opening = c.args.opening.now in
    let i = c.loop-field.field in
    let low : to_z w64 (of_z w64 (at b.lo c.from-place.result)) ≡ at b.lo c.from-place.result = grind (arith, ints, to_z-of_z) in
    let high : to_z w64 (of_z w64 (at b.hi c.from-place.result)) ≡ at b.hi c.from-place.result = grind (arith, ints, to_z-of_z) in
    AppendsPrefix-stopped c.from_residual.result c.args.out.now.items c.loop-field.out.items c.append_interval.new.out.items
    (spaced (conds_words opening (first_conds b i)))
    (spaced (conds_words c.loop-field.lead.now (conds_of_interval i (to_z w64 (of_z w64 (at b.lo c.from-place.result))) (to_z w64 (of_z w64 (at b.hi c.from-place.result))))))
    (rest_text opening b (i + 1)) (spaced (conds_words opening (conds_of b)))
    c.from_residual.ensures.0 c.loop-field.invariant.0
    (conds_split b opening c.loop-field.lead.now i _ _ c.loop-field-test.true (low ∙ ap (at b.lo) c.from-place.ensures) (high ∙ ap (at b.hi) c.from-place.ensures) c.loop-field.invariant.1)
    c.in_err-append_interval.ensures

pub loop-field-preserved : goal.loop-field-preserved
loop-field-preserved c =
    let low : to_z w64 (of_z w64 (at c.args.bounds.now.lo c.from-place.result)) ≡ at c.args.bounds.now.lo c.from-place.result = grind (arith, ints, to_z-of_z) in
    let high : to_z w64 (of_z w64 (at c.args.bounds.now.hi c.from-place.result)) ≡ at c.args.bounds.now.hi c.from-place.result = grind (arith, ints, to_z-of_z) in
    conds_more c.args.bounds.now c.args.opening.now c.loop-field.lead.now c.lead_after-lead.result.now
    c.args.out.now.items c.loop-field.out.items c.append_interval.new.out.items c.loop-field.field
    (to_z w64 (of_z w64 (at c.args.bounds.now.lo c.from-place.result))) (to_z w64 (of_z w64 (at c.args.bounds.now.hi c.from-place.result)))
    c.loop-field-test.true
    (low ∙ ap (at c.args.bounds.now.lo) c.from-place.ensures) (high ∙ ap (at c.args.bounds.now.hi) c.from-place.ensures)
    c.loop-field.invariant.0 c.loop-field.invariant.1 c.in_ok-append_interval.ensures c.lead_after-lead.ensures

pub returns : goal.returns
returns c =
    c.loop-field.invariant.0 ∙ ap (λ cs. c.args.out.now.items ++ spaced (conds_words c.args.opening.now cs)) (first_conds-all c.args.bounds.now c.loop-field.field (omega (arith, c.loop-field-test.false)))
