use Rattle.std.proofs.Common.{set, ap, ◌∙◌, arith}
use Rattle.std.proofs.lemmas.List.{get_or_default}
use Rattle.std.proofs.lemmas.List.Edits.{map_over_more}
use Rattle.plain_engine.specs.Holding.{ended}
use Rattle.plain_engine.proofs.store.end_among.Goals as goal

pub loop-holding-preserved : goal.loop-holding-preserved
loop-holding-preserved c =
    let i = c.loop-holding.holding-index in
    ap (set c.loop-holding.held i) c.end.ensures
    ∙ map_over_more (ended c.args.n c.args.at) c.args.held.now c.loop-holding.held i _ c.loop-holding-test.true c.loop-holding.invariant (get_or_default c.loop-holding.held i _ _ (let same = c.loop-holding.auto.held in let low = c.loop-holding-test.true in omega (arith, same, low)))
