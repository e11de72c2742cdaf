use Rattle.std.proofs.Common.{set, sym, subst}
use Rattle.shared_agg.specs.Duties.{AreClasses}
use Rattle.shared_agg.proofs.DutyLaws.{classes-set}
use Rattle.shared_agg.proofs.duties.Duties.set.Goals as goal

pub invariant_of-self : goal.invariant_of-self
invariant_of-self c =
    let d = c.self.inside in
    subst (λ n. AreClasses (set d.duties n c.args.duty) c.mark_all.new.classes c.used_of-self-inside.result) (sym c.from.ensures)
    (classes-set d.duties d.classes c.mark_all.new.classes d.used c.used_of-self-inside.result c.args.slot c.args.duty c.self.invariant c.mark_all.ensures c.used_of-self-inside.ensures)
