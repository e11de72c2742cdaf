use Rattle.by_start.proofs.OrderLaws.{range-places}
use Rattle.by_start.proofs.ByStart.within.Goals as goal

pub returns-clause-places : goal.returns-clause-places
returns-clause-places g c =
    rw (← c.self.view_is) (range-places c.args.from c.args.to c.places_in.result c.self.inside.list.items c.self.invariant c.places_in.ensures.range)
