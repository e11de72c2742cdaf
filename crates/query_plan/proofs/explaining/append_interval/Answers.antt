use Rattle.std.proofs.Common.{◌≡◌, ◌∷◌, ◌++◌, [], sym, ap, ap₂, ◌∙◌, append-nil, codes, to_z, of_z, w64, arith}
use Rattle.std.proofs.lemmas.Int.{ints, to_z-of_z}
use Rattle.query_text.specs.declared.ast.Op.TheVariants.{Ge}
use Rattle.as_words.specs.Words.{spaced}
use Rattle.as_words.proofs.AppendsLaws.{AppendsPrefix-after, AppendsPrefix-stopped}
use Rattle.query_text.specs.Spelling.{cond_words, conds_words}
use Rattle.query_plan.specs.Text.{comparison, conds_of_interval, conds_of_high}
use Rattle.query_plan.proofs.TextLaws.{interval_split}
use Rattle.query_plan.proofs.explaining.append_interval.Goals as goal

pub returns-in_err-append_cond : goal.returns-in_err-append_cond
returns-in_err-append_cond c =
    let lead = c.args.lead.now in
    let low : to_z w64 (of_z w64 c.args.lo) ≡ c.args.lo = grind (arith, ints, to_z-of_z) in
    AppendsPrefix-stopped c.from_residual.result c.args.out.now.items c.args.out.now.items c.append_cond-2.new.out.items
    [] (spaced (lead ∷ cond_words (comparison c.args.field Ge (to_z w64 (of_z w64 c.args.lo))))) (spaced (conds_words (codes "and") (conds_of_high c.args.field c.args.hi)))
    (spaced (conds_words lead (conds_of_interval c.args.field c.args.lo c.args.hi)))
    c.from_residual.ensures.0 (sym (append-nil c.args.out.now.items))
    (interval_split lead c.args.field c.args.lo c.args.hi (λ e. c.if-lo-hi.false (ap (of_z w64) e)) (λ e. c.if-lo-eqminus9223372036854775808.false (ap (of_z w64) e))
    ∙ ap (λ z. spaced (lead ∷ cond_words (comparison c.args.field Ge z)) ++ spaced (conds_words (codes "and") (conds_of_high c.args.field c.args.hi))) (sym low))
    c.in_err-append_cond.ensures

pub returns : goal.returns
returns c =
    let lead = c.args.lead.now in
    let low : to_z w64 (of_z w64 c.args.lo) ≡ c.args.lo = grind (arith, ints, to_z-of_z) in
    let high : to_z w64 (of_z w64 c.args.hi) ≡ c.args.hi = grind (arith, ints, to_z-of_z) in
    AppendsPrefix-after c.append_high-2.result c.args.out.now.items c.append_cond-2.new.out.items c.append_high-2.new.out.items
    (spaced (lead ∷ cond_words (comparison c.args.field Ge (to_z w64 (of_z w64 c.args.lo))))) (spaced (conds_words c.as_slice.result.now (conds_of_high c.args.field (to_z w64 (of_z w64 c.args.hi)))))
    (spaced (conds_words lead (conds_of_interval c.args.field c.args.lo c.args.hi)))
    c.in_ok-append_cond.ensures
    (interval_split lead c.args.field c.args.lo c.args.hi (λ e. c.if-lo-hi.false (ap (of_z w64) e)) (λ e. c.if-lo-eqminus9223372036854775808.false (ap (of_z w64) e))
    ∙ ap₂ (λ z y. spaced (lead ∷ cond_words (comparison c.args.field Ge z)) ++ spaced (conds_words (codes "and") (conds_of_high c.args.field y))) (sym low) (sym high)
    ∙ ap (λ w. spaced (lead ∷ cond_words (comparison c.args.field Ge (to_z w64 (of_z w64 c.args.lo)))) ++ spaced (conds_words w (conds_of_high c.args.field (to_z w64 (of_z w64 c.args.hi))))) (sym c.as_slice.ensures))
    c.append_high-2.ensures
