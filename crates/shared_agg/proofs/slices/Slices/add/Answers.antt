use Rattle.std.proofs.Common.{◌<◌, ◌^◌, sym, ap, subst}
use Rattle.shared_agg.specs.Slices.{Lane}
use Rattle.shared_agg.proofs.slices.Slices.add.Goals as goal

pub invariant_of-self : goal.invariant_of-self
invariant_of-self c = c.put.ensures.lane c.self.inside.added (subst (λ n. n < 2 ^ 62) (sym (ap (λ (l : Lane). l.added) c.self.view_is)) c.requires) c.self.invariant
