use Rattle.std.proofs.Common.{◌<◌, length, sym, subst}
use Rattle.by_start.proofs.OrderLaws.{start_at-read}
use Rattle.by_start.proofs.ByStart.start.Goals as goal

pub returns : goal.returns
returns g c =
    rw (← c.self.view_is) (sym (start_at-read c.self.inside.list.items c.args.place c.index.result.now (subst (λ l. c.args.place < length l) (sym c.self.view_is) c.requires) c.index.ensures))
