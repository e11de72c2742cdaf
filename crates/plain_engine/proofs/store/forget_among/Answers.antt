use Rattle.std.proofs.Common.{get_or, set, ap, ◌∙◌, arith}
use Rattle.std.proofs.lemmas.List.{get_or_default}
use Rattle.std.proofs.lemmas.List.Edits.{map_over_more}
use Rattle.plain_engine.specs.Held.{Held}
use Rattle.plain_engine.specs.Holding.{mark_by, forgotten}
use Rattle.plain_engine.proofs.store.forget_among.Goals as goal

pub loop-holding-preserved : goal.loop-holding-preserved
loop-holding-preserved c =
    let i = c.loop-holding.holding-index in
    let marks = c.args.marks.now in
    let h = get_or c.loop-holding.held i c.holding-item.result in
    ap (set c.loop-holding.held i) (c.forget.ensures ∙ ap (λ m. forgotten m h) (c.mark_by-mark.ensures ∙ ap (mark_by marks) c.plan.ensures))
    ∙ map_over_more (λ (h : Held). forgotten (mark_by marks h.plan) h) c.args.held.now c.loop-holding.held i h c.loop-holding-test.true c.loop-holding.invariant (get_or_default c.loop-holding.held i _ _ (let same = c.loop-holding.auto.held in let low = c.loop-holding-test.true in omega (arith, same, low)))
