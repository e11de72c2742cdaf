use Rattle.std.proofs.Common.{length, set, sym, ap, ap₂, ◌∙◌, ℤ, w64}
use Rattle.std.proofs.lemmas.Int.{to_z-of_z}
use Rattle.box_lanes.specs.Parts.{Interval, intervals}
use Rattle.box_lanes.proofs.BoxLaws.{length-intervals, intervals-set, IsField-set}
use Rattle.box_lanes.proofs.field.Field.put.Goals as goal

pub invariant_of-self : goal.invariant_of-self
invariant_of-self c = IsField-set c.self.inside.low c.self.inside.high c.args.slot c.args.low c.args.high c.ranges.low c.ranges.high c.self.invariant

pub returns-clause-slots : goal.returns-clause-slots
returns-clause-slots c = ap length (sym c.self.view_is) ∙ length-intervals c.self.inside.low c.self.inside.high c.self.invariant.low_size c.self.invariant.high_size

pub returns-clause-value : goal.returns-clause-value
returns-clause-value c =
    let lows = c.self.inside.low in
    let highs = c.self.inside.high in
    let i = c.args.slot in
    let both : Interval = record { low = c.args.low; high = c.args.high } in
    ap₂ (λ (x y : ℤ). intervals (set lows i x) (set highs i y)) (to_z-of_z w64 c.args.low c.ranges.low) (to_z-of_z w64 c.args.high c.ranges.high)
    ∙ intervals-set lows highs i c.args.low c.args.high
    ∙ ap (λ xs. set xs i both) c.self.view_is
