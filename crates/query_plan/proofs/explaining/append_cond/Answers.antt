use Rattle.std.proofs.Common.{◌≡◌, ◌∷◌, ◌++◌, [], refl, sym, ap, ◌∙◌, append-nil, to_z, of_z, w64, arith}
use Rattle.std.specs.Fmt.{signed_decimal}
use Rattle.std.proofs.lemmas.Int.{ints, to_z-of_z}
use Rattle.as_words.specs.Words.{spaced}
use Rattle.as_words.proofs.AppendsLaws.{AppendsPrefix-after, AppendsPrefix-stopped}
use Rattle.query_text.specs.Spelling.{cond_words}
use Rattle.query_plan.proofs.TextLaws.{cond_split, appended_after}
use Rattle.query_plan.proofs.explaining.append_cond.Goals as goal

pub returns-in_err-append_spaced : goal.returns-in_err-append_spaced
returns-in_err-append_spaced c =
    let lead = c.args.lead.now in
    AppendsPrefix-stopped c.from_residual.result c.args.out.now.items c.args.out.now.items c.append_spaced.new.out.items
    [] (32 ∷ lead) (spaced (cond_words c.args.cond)) (spaced (lead ∷ cond_words c.args.cond))
    c.from_residual.ensures.0 (sym (append-nil c.args.out.now.items)) refl c.in_err-append_spaced.ensures

pub returns-in_err-append_words : goal.returns-in_err-append_words
returns-in_err-append_words c =
    let lead = c.args.lead.now in
    AppendsPrefix-stopped c.from_residual-in_err-append_words.result c.args.out.now.items c.append_spaced.new.out.items c.append_words.new.out.items
    (32 ∷ lead) (spaced (c.field_name.result.now ∷ c.op_name.result.now ∷ [])) (32 ∷ signed_decimal c.args.cond.value) (spaced (lead ∷ cond_words c.args.cond))
    c.from_residual-in_err-append_words.ensures.0 c.in_ok-append_spaced.ensures (cond_split lead c.field_name.result.now c.op_name.result.now c.args.cond c.field_name.ensures c.op_name.ensures) c.in_err-append_words.ensures

pub returns : goal.returns
returns c =
    let lead = c.args.lead.now in
    let words = spaced (c.field_name.result.now ∷ c.op_name.result.now ∷ []) in
    let value : to_z w64 (of_z w64 c.args.cond.value) ≡ c.args.cond.value = grind (arith, ints, to_z-of_z) in
    AppendsPrefix-after c.append_spaced_signed.result c.args.out.now.items c.append_words.new.out.items c.append_spaced_signed.new.out.items
    (32 ∷ lead ++ words) (32 ∷ signed_decimal (to_z w64 (of_z w64 c.args.cond.value))) (spaced (lead ∷ cond_words c.args.cond))
    (appended_after c.args.out.now.items c.append_spaced.new.out.items c.append_words.new.out.items (32 ∷ lead) words c.in_ok-append_spaced.ensures c.in_ok-append_words.ensures)
    (cond_split lead c.field_name.result.now c.op_name.result.now c.args.cond c.field_name.ensures c.op_name.ensures ∙ ap (λ z. 32 ∷ lead ++ words ++ 32 ∷ signed_decimal z) (sym value))
    c.append_spaced_signed.ensures
