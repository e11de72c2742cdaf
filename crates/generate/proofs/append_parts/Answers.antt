use Rattle.std.proofs.Common.{[], ◌++◌, ◌∙◌, ap, sym, refl, append-nil, take, drop, get_or, ◌+◌}
use Rattle.as_words.proofs.AppendsLaws.{AppendsPrefix-stopped}
use Rattle.generate.specs.Generated.{text_of_parts}
use Rattle.generate.specs.Parts.{parts_at}
use Rattle.generate.proofs.LineLaws.{no_part, parts_more, parts_split, appended_after}
use Rattle.generate.proofs.append_parts.Goals as goal

pub returns-in_err-extend_from_slice : goal.returns-in_err-extend_from_slice
returns-in_err-extend_from_slice c =
    let parts = c.args.parts.now in
    let i = c.loop-part.part-index in
    AppendsPrefix-stopped c.from_residual.result c.args.out.now.items c.loop-part.out.items c.extend_from_slice.new.self.items
    (text_of_parts (parts_at (take i parts))) (get_or parts i no_part).now (text_of_parts (parts_at (drop (i + 1) parts))) (text_of_parts (parts_at parts))
    c.from_residual.ensures.0 c.loop-part.invariant (parts_split parts i c.loop-part-test.true)
    ([], ((get_or parts i no_part).now, refl), c.in_err-extend_from_slice.ensures.items ∙ sym (append-nil c.loop-part.out.items))

pub loop-part-preserved : goal.loop-part-preserved
loop-part-preserved c =
    let parts = c.args.parts.now in
    let i = c.loop-part.part-index in
    appended_after c.args.out.now.items c.loop-part.out.items c.extend_from_slice.new.self.items (text_of_parts (parts_at (take i parts))) (get_or parts i no_part).now
    c.loop-part.invariant c.in_ok-extend_from_slice.ensures.items
    ∙ ap (λ xs. c.args.out.now.items ++ xs) (sym (parts_more parts i c.loop-part-test.true))
