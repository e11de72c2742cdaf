use Rattle.std.proofs.Common.{◌+◌, ◌*◌, ◌/◌, ◌∙◌, cond, List, Bool, length, count_by, sum_by, ap, ap₂}
use Rattle.std.proofs.lemmas.List.Sums.{sum_by-take-drop}
use Rattle.queryset_lanes.specs.Slots.{meets}
use Rattle.queryset_lanes.proofs.Blocks.{sum_by-first_chunks}
use Rattle.queryset_lanes.proofs.count_meeting.Goals as goal

pub returns : goal.returns
returns c =
    let q : List Bool → Bool = λ s. meets s c.args.mask.now in
    let sets = c.args.sets.now in
    let n = length sets / 8 in
    ap₂ (λ a b. a + b)
    (c.meeting_in_blocks.ensures.value ∙ ap (sum_by (count_by q)) c.as_chunks.ensures.front ∙ sum_by-first_chunks (λ s. cond (q s) 1 0) 8 n sets)
    (c.meeting_in_rest.ensures ∙ ap (count_by q) c.as_chunks.ensures.back)
    ∙ sum_by-take-drop (λ s. cond (q s) 1 0) sets (n * 8)
