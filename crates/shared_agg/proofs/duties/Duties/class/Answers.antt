use Rattle.std.proofs.Common.{false, sym, ap, ◌∙◌}
use Rattle.queryset_lanes.specs.Slots.{has_slot}
use Rattle.shared_agg.specs.Duties.{class_at}
use Rattle.shared_agg.proofs.DutyLaws.{class-is, used-is}
use Rattle.shared_agg.proofs.duties.Duties.class.Goals as goal

pub returns-then-self-place-clause-some : goal.returns-then-self-place-clause-some
returns-then-self-place-clause-some c =
    let d = c.self.inside in
    class-is d.duties d.classes d.used c.self.invariant c.args.place c.requires c.index-self-place.result ∙ ap (λ l. class_at l c.args.place) c.self.view_is

pub returns-else-self-place-clause-none : goal.returns-else-self-place-clause-none
returns-else-self-place-clause-none c =
    let d = c.self.inside in
    sym (used-is d.duties d.classes d.used c.self.invariant c.args.place c.requires false ∙ ap (λ l. has_slot (class_at l c.args.place).slots) c.self.view_is) ∙ c.if-self-place.false
