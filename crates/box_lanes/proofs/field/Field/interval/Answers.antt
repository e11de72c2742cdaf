use Rattle.std.proofs.Common.{get_or, length, pos, sym, ap, ◌∙◌}
use Rattle.box_lanes.specs.Parts.{nothing}
use Rattle.box_lanes.proofs.BoxLaws.{length-intervals, get_or-intervals, low_whole, high_whole}
use Rattle.box_lanes.proofs.field.Field.interval.Goals as goal

pub returns-clause-slots : goal.returns-clause-slots
returns-clause-slots c = ap length (sym c.self.view_is) ∙ length-intervals c.self.inside.low c.self.inside.high c.self.invariant.low_size c.self.invariant.high_size

pub returns-clause-value : goal.returns-clause-value
returns-clause-value c =
    let low = c.self.inside.low in
    let high = c.self.inside.high in
    let i = c.args.slot in
    let is = c.self.invariant in
    ap (λ xs. get_or xs i nothing) (sym c.self.view_is)
    ∙ get_or-intervals low high i (pos 0) is.low_size is.high_size c.requires
    ∙ (λ t. record { low = sym (low_whole low high i is c.requires) t; high = sym (high_whole low high i is c.requires) t })
