use Rattle.std.proofs.Common.{◌∙◌, List, ap}
use Rattle.std.specs.List.{filter}
use Rattle.slice_store.specs.Slices.{store}
use Rattle.views.specs.Slots.{Holder}
use Rattle.contents.specs.Past.{mark_of}
use Rattle.part_state.specs.Waiting.{stays}
use Rattle.part_state.proofs.AdvanceLaws.{reader-advance}
use Rattle.part_state.proofs.reader.Reader.evict.Goals as goal

pub returns : goal.returns
returns c = λ s p stored past up es low was.
    let old = c.args.self.now in
    let marks = c.args.marks.now in
    reader-advance p marks past up s stored old c.evict_all.new.slices low c.evict_all.ensures.rise
    (c.evict_all.ensures.left ∙ ap (λ (hs : List Holder). store old.slices.stream (filter (stays hs marks (mark_of marks old.slices.stream)) old.slices.slices)) es) was
