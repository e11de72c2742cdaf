use Rattle.std.proofs.Common.{◌<◌, length, refl, sym, subst}
use Rattle.by_start.specs.Order.{StartsRise}
use Rattle.by_start.proofs.OrderLaws.{thing_at-read}
use Rattle.by_start.proofs.ListLaws.{with_thing-same}
use Rattle.by_start.proofs.LookLaws.{rise-with_thing, set-with_thing, look-with_thing}
use Rattle.by_start.proofs.ByStart.thing_mut.Goals as goal

pub invariant_of-self-lent : goal.invariant_of-self-lent
invariant_of-self-lent g c =
    λ w. subst StartsRise (sym (set-with_thing c.self.inside.list.items c.args.place c.index_mut.result.now w (subst (λ l. c.args.place < length l) (sym c.self.view_is) c.requires) c.index_mut.ensures.value))
    (rise-with_thing c.args.place c.self.inside.list.items w c.self.invariant)

pub returns : goal.returns
returns g c =
    let within = subst (λ l. c.args.place < length l) (sym c.self.view_is) c.requires in
    let stands = thing_at-read c.self.inside.list.items c.args.place c.index_mut.result.now within c.index_mut.ensures.value in
    rw (← c.self.view_is) (
      (refl, λ w. set-with_thing c.self.inside.list.items c.args.place c.index_mut.result.now w within c.index_mut.ensures.value),
      record {
        writes_back = tt;
        value = stands;
        same = with_thing-same c.args.place c.self.inside.list.items c.index_mut.result.now.thing stands;
        looks = λ w. look-with_thing c.args.place c.self.inside.list.items w c.self.invariant within;
      },
    )
