use Rattle.std.proofs.Common.{◌++◌, ap, ◌∙◌}
use Rattle.views.specs.Pairs.{by_numbers}
use Rattle.views.proofs.PairLaws.{sorted-by_numbers}
use Rattle.shared_join.specs.Window.{lane_shown}
use Rattle.shared_join.proofs.window.couples_of.Goals as goal

pub returns : goal.returns
returns c =
    let w = c.args.window.now in
    c.from_vec.ensures
    ∙ sorted-by_numbers _ _ c.in_ok-sort_by_numbers.ensures.order c.in_ok-sort_by_numbers.ensures.stable
    ∙ ap by_numbers (c.in_ok-push_lane.ensures ∙ ap (λ l. l ++ lane_shown w c.args.lane.now c.args.ones.now c.args.others.now) c.new-couples.ensures.items)
