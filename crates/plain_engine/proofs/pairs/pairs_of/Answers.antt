use Rattle.std.proofs.Common.{ap, ◌∙◌}
use Rattle.views.specs.Pairs.{couples, by_numbers}
use Rattle.views.proofs.PairLaws.{sorted-by_numbers}
use Rattle.plain_engine.proofs.PairLaws.{couples-same}
use Rattle.plain_engine.proofs.pairs.pairs_of.Goals as goal

pub returns : goal.returns
returns c =
    let found = c.in_ok-couples.ensures ∙ ap (couples c.args.lefts.now) c.deref.ensures.value ∙ couples-same c.args.lefts.now c.args.rights.now _ c.in_ok-by_key.ensures.same in
    sorted-by_numbers _ _ c.in_ok-sort_by_numbers.ensures.order c.in_ok-sort_by_numbers.ensures.stable ∙ ap by_numbers found
