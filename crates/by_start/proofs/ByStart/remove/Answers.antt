use Rattle.std.proofs.Common.{◌<◌, length, sym, subst}
use Rattle.by_start.specs.Order.{StartsRise}
use Rattle.by_start.proofs.OrderLaws.{thing_at-read}
use Rattle.by_start.proofs.LookLaws.{rise-without, look-without}
use Rattle.by_start.proofs.ByStart.remove.Goals as goal

pub invariant_of-self : goal.invariant_of-self
invariant_of-self g c = subst StartsRise (sym c.in-Some.ensures.items) (rise-without c.args.place c.self.inside.list.items c.self.invariant)

pub returns-clause-thing : goal.returns-clause-thing
returns-clause-thing g c =
    rw (← c.self.view_is) (thing_at-read c.self.inside.list.items c.args.place c.in-Some.b (subst (λ l. c.args.place < length l) (sym c.self.view_is) c.requires) c.in-Some.ensures.value)

pub returns-clause-looks : goal.returns-clause-looks
returns-clause-looks g c =
    rw (c.in-Some.ensures.items, ← c.self.view_is) (look-without c.args.place c.self.inside.list.items c.self.invariant (subst (λ l. c.args.place < length l) (sym c.self.view_is) c.requires))
