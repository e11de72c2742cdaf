use Rattle.std.proofs.Common.{◌∙◌, List, Bool, set, sym, ap, arith}
use Rattle.std.proofs.lemmas.List.Edits.{map_over_more}
use Rattle.queryset_lanes.specs.Slots.{both}
use Rattle.queryset_lanes.proofs.mask_all.Goals as goal

pub loop-set-preserved : goal.loop-set-preserved
loop-set-preserved c =
    let sets = c.loop-set.sets in
    let i = c.loop-set.set-index in
    let mask = c.args.mask.now in
    ap (λ (x : List Bool). set sets i x) c.and.ensures.value
    ∙ ap (λ (x : List Bool). set sets i (both x mask)) (sym c.set-item.is)
    ∙ map_over_more (λ x. both x mask) c.args.sets.now sets i c.set-item.result (omega arith) c.loop-set.invariant c.set-item.is
