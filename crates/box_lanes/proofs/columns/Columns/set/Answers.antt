use Rattle.std.proofs.Common.{None, Some, get_or, set, ap, ◌∙◌, arith, get_or-set_same}
use Rattle.std.proofs.lemmas.List.{set-set}
use Rattle.box_lanes.proofs.IndexedLaws.{indexed-set}
use Rattle.box_lanes.proofs.columns.Columns.set.Goals as goal

pub invariant_of-self : goal.invariant_of-self
invariant_of-self c =
    let was = c.self.view_is ∙ c.clear.ensures.value in
    let none = ap (λ xs. get_or xs c.args.slot None) was ∙ get_or-set_same c.args.self.now c.args.slot None None (omega (arith, c.clear.ensures.slots, c.requires)) in
    indexed-set c.self.inside.indexes c.mark.new.self c.self.inside.blocks c.set.new.self c.args.slot c.args.b.now c.requires c.self.invariant none c.set.ensures.value c.mark.ensures

pub returns-clause-value : goal.returns-clause-value
returns-clause-value c =
    c.set.ensures.value
    ∙ ap (λ xs. set xs c.args.slot (Some c.args.b.now)) (c.self.view_is ∙ c.clear.ensures.value)
    ∙ set-set c.args.self.now c.args.slot None (Some c.args.b.now)
