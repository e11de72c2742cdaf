use Rattle.std.proofs.Common.{◌≡◌, None, sym, subst}
use Rattle.by_start.specs.Order.{look, StartsRise, begun_before}
use Rattle.by_start.proofs.LookLaws.{rise-begun, look-insert}
use Rattle.by_start.proofs.ByStart.insert.Goals as goal

pub invariant_of-self-2 : goal.invariant_of-self-2
invariant_of-self-2 g c =
    subst StartsRise (sym c.in_ok-insert_in.ensures.ok)
    (rise-begun c.args.start c.args.thing c.self.inside.list.items c.self.invariant (subst (λ l. look c.args.start l ≡ None) (sym c.self.view_is) c.requires))

pub returns-clause-looks : goal.returns-clause-looks
returns-clause-looks g c =
    rw (c.in_ok-insert_in.ensures.ok, ← c.self.view_is)
    (look-insert c.args.start (begun_before c.args.start c.self.inside.list.items) c.args.thing c.self.inside.list.items (subst (λ l. look c.args.start l ≡ None) (sym c.self.view_is) c.requires))
