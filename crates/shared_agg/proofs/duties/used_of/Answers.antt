use Rattle.std.proofs.Common.{false, map, ext_get_or, arith}
use Rattle.std.proofs.lemmas.List.{length-map}
use Rattle.queryset_lanes.specs.Slots.{has_slot}
use Rattle.shared_agg.specs.declared.duties.Class.{Class}
use Rattle.shared_agg.proofs.duties.used_of.Goals as goal

pub returns : goal.returns
returns c =
    let long = c.loop-place.invariant.long in
    ext_get_or false c.loop-place.used (map (λ (x : Class). has_slot x.slots) c.args.classes.now)
    (omega (arith, long, length-map c.args.classes.now (λ (x : Class). has_slot x.slots), c.type_inv.classes))
    (λ k low. c.loop-place.invariant.so_far k false false (omega (arith, low, long, c.loop-place-test.false)))
