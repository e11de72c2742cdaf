use Rattle.std.proofs.Common.{◌≡◌, ◌∙◌, not, cond, ap, ap₂}
use Rattle.std.specs.Prelude.{slice_index_or}
use Rattle.by_start.specs.Order.{without}
use Rattle.slice_store.specs.Placed.{may_go}
use Rattle.slice_store.specs.Slices.{store}
use Rattle.contents.specs.Past.{mark_of}
use Rattle.part_state.specs.declared.waiting.Wait.TheVariants.{Selecting, Joining}
use Rattle.part_state.specs.Waiting.{waiting}
use Rattle.part_state.proofs.EvictLaws.{evicted, start-there, placed-there}
use Rattle.part_state.proofs.reader.evict_at.Goals as goal

pub returns : goal.returns
returns c = λ d.
    let s = c.args.slices.now in
    let i = c.args.i in
    let es = c.args.entries.now in
    let marks = c.args.marks.now in
    let b = slice_index_or s.slices i d in
    let at : c.start-start.result ≡ b.start = c.start-start.ensures ∙ start-there s.slices i d c.requires in
    let goes : c.evict.result ≡ may_go (waiting Joining marks b.start es) (waiting Selecting marks b.start es) (mark_of marks s.stream) b.thing.placed =
    c.evict.ensures.value
    ∙ ap₂ (λ w v. may_go w v c.mark_of-mark.result (Rattle.slice_store.specs.Slices.slice_of s.slices i).placed)
    (c.slots_waiting-windows.ensures ∙ ap (λ n. waiting Joining marks n es) at) (c.slots_waiting-selects.ensures ∙ ap (λ n. waiting Selecting marks n es) at)
    ∙ ap₂ (λ m ps. may_go (waiting Joining marks b.start es) (waiting Selecting marks b.start es) m ps)
    (c.mark_of-mark.ensures ∙ ap (mark_of marks) c.stream.ensures) (placed-there s.slices i d c.requires) in
    evicted s.stream s.slices i c.evict.new.self c.evict.result c.evict.ensures.gone
    ∙ ap (λ g. store s.stream (cond (not g) s.slices (without i s.slices))) goes
