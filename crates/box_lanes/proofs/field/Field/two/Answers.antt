use Rattle.std.proofs.Common.{◌≡◌, ◌+◌, ◌<◌, ◌∷◌, [], ℤ, pos, length, sym, ap, ap₂, ◌∙◌, to_z, of_z, w64, arith}
use Rattle.std.proofs.lemmas.Int.{to_z-of_z}
use Rattle.as_base.specs.Query.{at}
use Rattle.box_lanes.specs.Parts.{Interval, lane, is_inside}
use Rattle.box_lanes.proofs.BoxLaws.{length-intervals, get_or-intervals, low_whole, high_whole}
use Rattle.box_lanes.proofs.Lanes.{lanes_of, loaded, lane_within}
use Rattle.box_lanes.proofs.field.Field.two.Goals as goal

pub returns-clause-slots : goal.returns-clause-slots
returns-clause-slots c = ap length (sym c.self.view_is) ∙ length-intervals c.self.inside.low c.self.inside.high c.self.invariant.low_size c.self.invariant.high_size

pub returns-clause-value : goal.returns-clause-value
returns-clause-value c =
    let low = c.self.inside.low in
    let high = c.self.inside.high in
    let value = c.args.value in
    let i = c.args.slot in
    let is = c.self.invariant in
    let first : i < 64 = omega (arith, c.requires) in
    let v : to_z w64 (of_z w64 value) ≡ value = to_z-of_z w64 value c.ranges.value in
    rw (loaded low i is.low_size c.requires, loaded high i is.high_size c.requires, v, low_whole low high i is first, low_whole low high (i + 1) is c.requires, high_whole low high i is first, high_whole low high (i + 1) is c.requires) (
    ap₂ (λ (p q : ℤ). p ∷ q ∷ []) (lane_within (at low i) value (at high i)) (lane_within (at low (i + 1)) value (at high (i + 1)))
    ∙ ap₂ (λ (x y : Interval). lane (is_inside x value) ∷ lane (is_inside y value) ∷ []) (sym (get_or-intervals low high i (pos 0) is.low_size is.high_size first)) (sym (get_or-intervals low high (i + 1) (pos 0) is.low_size is.high_size c.requires))
    ∙ ap (λ xs. lanes_of xs i value) c.self.view_is)
