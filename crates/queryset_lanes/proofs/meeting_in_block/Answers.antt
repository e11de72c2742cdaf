use Rattle.std.proofs.Common.{◌≡◌, ℕ, ◌≤◌, ◌<◌, ◌∙◌, List, [], Bool, not, eqb, length, get_or, count_by, sym, ap, subst, arith, below_more, ne_of_lt, length-set, get_or-set_other, get_or-set_same}
use Rattle.std.proofs.lemmas.List.{get_or_default}
use Rattle.std.proofs.lemmas.List.Sums.{count_by-le-length}
use Rattle.queryset_lanes.specs.Slots.{meets}
use Rattle.queryset_lanes.proofs.Blocks.{count_lanes}
use Rattle.queryset_lanes.proofs.meeting_in_block.Goals as goal

pub loop-place-preserved : goal.loop-place-preserved
loop-place-preserved c =
    let words = c.loop-place.words in
    let place = c.loop-place.place in
    let sets = c.args.sets.now in
    let mask = c.args.mask.now in
    let inside : place < length words = omega (arith, c.loop-place.invariant.eight) in
    let item : get_or sets place c.index-sets-place.result ≡ get_or sets place [] = get_or_default sets place c.index-sets-place.result [] (omega (arith, c.told-sets)) in
    record {
      eight = length-set words place c.common.result ∙ c.loop-place.invariant.eight;
      so_far = below_more _ place
          (λ k h. ap (λ n. eqb n 0) (get_or-set_other words place k c.common.result 0 (ne_of_lt h)) ∙ c.loop-place.invariant.so_far k h)
          (ap (λ n. eqb n 0) (get_or-set_same words place c.common.result 0 inside) ∙ c.common.ensures ∙ ap (λ s. not (meets s mask)) item);
    }

pub returns-clause-fits : goal.returns-clause-fits
returns-clause-fits c =
    let q : List Bool → Bool = λ s. meets s c.args.mask.now in
    let sets = c.args.sets.now in
    let few : count_by q sets ≤ 8 = omega (arith, count_by-le-length q sets, c.told-sets) in
    subst (λ (n : ℕ). n ≤ 8) (sym (count_lanes q [] c.loop-place.words sets c.loop-place.invariant.eight c.told-sets (λ k h. c.loop-place.invariant.so_far k (omega arith)))) few

pub returns-clause-value : goal.returns-clause-value
returns-clause-value c = count_lanes (λ s. meets s c.args.mask.now) [] c.loop-place.words c.args.sets.now c.loop-place.invariant.eight c.told-sets (λ k h. c.loop-place.invariant.so_far k (omega arith))
