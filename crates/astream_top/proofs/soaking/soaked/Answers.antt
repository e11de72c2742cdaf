use Rattle.std.proofs.Common.{◌++◌, sym, ap, ◌∙◌}
use Rattle.soak.specs.Soaked.{items_of, soak_text}
use Rattle.astream_top.proofs.GenerationLaws.{length-items_of}
use Rattle.astream_top.proofs.soaking.soaked.Goals as goal

pub returns-clause-text : goal.returns-clause-text
returns-clause-text g c = λ d began.
    let h = items_of c.args.number c.args.lines c.args.streams in
    let ended = c.in_ok-end_all.ensures.soaked d h (c.in_ok-take_lines.ensures.soaked d began) in
    let lines = c.end_all.ensures.lines ∙ c.in_ok-take_lines.ensures.all ∙ sym (length-items_of c.args.number c.args.lines c.args.streams) in
    c.in_ok-append_soaked.ensures d h ended.tally lines ∙ ap (λ l. l ++ soak_text d h) c.new-text.ensures.items
