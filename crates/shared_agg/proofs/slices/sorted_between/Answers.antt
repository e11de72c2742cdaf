use Rattle.shared_agg.proofs.WindowLaws.{gathered-few}
use Rattle.shared_agg.proofs.slices.sorted_between.Goals as goal

pub add_up-requires-clause-few : goal.add_up-requires-clause-few
add_up-requires-clause-few c = λ group.
    gathered-few c.args.first c.args.past c.args.slot c.args.slices.now.items c.in_ok-cells.cells.items c.in_ok-cells.ensures.cells group (c.requires.few group)
