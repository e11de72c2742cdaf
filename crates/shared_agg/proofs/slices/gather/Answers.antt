use Rattle.std.proofs.Common.{◌≡◌, ◌<◌, length, ap, subst, ◌∙◌, arith}
use Rattle.group_table.specs.Cells.{sums}
use Rattle.group_table.specs.Steps.{AreAppended}
use Rattle.group_table.specs.Tables.{cells_at}
use Rattle.shared_agg.specs.declared.slices.Slice.{Slice}
use Rattle.shared_agg.specs.Slices.{cells_within}
use Rattle.shared_agg.proofs.WindowLaws.{gather-more, sound-more}
use Rattle.shared_agg.proofs.slices.gather.Goals as goal

pub loop-place-preserved : goal.loop-place-preserved
loop-place-preserved c =
    let xs = c.args.slices.now.items in
    let old = c.loop-place.cells.items in
    let new = c.append_slot.new.cells.items in
    let d = c.index.result.now in
    let within : c.loop-place.place < length xs = omega (arith, c.loop-place-test.true, c.requires.within) in
    record {
      so_far = gather-more c.args.first c.loop-place.place c.args.slot xs d old new c.loop-place.auto.place within c.loop-place.invariant.so_far
          (subst (λ (s : Slice). AreAppended old new (cells_at s.table c.args.slot)) c.index.ensures c.in_ok-append_slot.ensures);
      sound = sound-more old new (cells_at d.table c.args.slot) c.loop-place.invariant.sound c.in_ok-append_slot.ensures;
    }

pub returns-clause-cells : goal.returns-clause-cells
returns-clause-cells c =
    let end : c.loop-place.place ≡ c.args.past = omega (arith, c.loop-place-test.false, c.loop-place.auto.place-end, c.requires.order) in
    c.loop-place.invariant.so_far ∙ ap (λ n. sums (cells_within c.args.first n c.args.slot c.args.slices.now.items)) end
