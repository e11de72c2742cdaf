use Rattle.std.proofs.Common.{ℕ, List, take, get_or, sym, ap, ◌∙◌}
use Rattle.std.proofs.lemmas.List.{take_more}
use Rattle.as_lineform.specs.Cutter.{keep, keep_all}
use Rattle.as_lineform.proofs.CutterLaws.{keep_all-push}
use Rattle.as_lineform.proofs.lines.Lines.keep_all.Goals as goal

pub loop-byte-preserved : goal.loop-byte-preserved
loop-byte-preserved c =
    let bytes : List ℕ = c.args.bytes.now in
    let i : ℕ = c.loop-byte.byte-index in
    let b : ℕ = get_or c.args.bytes.now c.loop-byte.byte-index 0 in
    c.keep.ensures ∙ ap (λ o. keep o b) c.loop-byte.invariant ∙ sym (keep_all-push c.args.self.now (take i bytes) b)
    ∙ ap (λ xs. keep_all c.args.self.now xs) (sym (take_more bytes i 0 c.loop-byte-test.true))
