use Rattle.std.proofs.Common.{◌∙◌, not, ap, ap₂, bit_and}
use Rattle.std.specs.Simd.Lanes.{zip2}
use Rattle.queryset_lanes.specs.Slots.{has_slot, both}
use Rattle.queryset_lanes.proofs.Words.{IsWords-both, slots_of-both}
use Rattle.queryset_lanes.proofs.Counts.{none-slots_of}
use Rattle.queryset_lanes.proofs.QuerySet.common.Goals as goal

pub returns : goal.returns
returns c =
    let a = c.lanes.result in
    let b = c.lanes-2.result in
    let words = IsWords-both a b c.lanes.ensures.words c.lanes-2.ensures.words in
    none-slots_of (zip2 bit_and a b) words.fit 0
    ∙ ap (λ slots. not (has_slot slots)) (slots_of-both a b c.lanes.ensures.words c.lanes-2.ensures.words ∙ ap₂ both c.lanes.ensures.slots c.lanes-2.ensures.slots)
