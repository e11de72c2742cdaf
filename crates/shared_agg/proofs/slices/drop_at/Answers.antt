use Rattle.std.proofs.Common.{◌≡◌, ℕ, ap, subst}
use Rattle.group_table.specs.Steps.{dropped}
use Rattle.group_table.specs.Tables.{cells_at}
use Rattle.shared_agg.specs.declared.slices.Slice.{Slice}
use Rattle.shared_agg.specs.Slices.{HasLost}
use Rattle.shared_agg.proofs.SliceLaws.{changed-set}
use Rattle.shared_agg.proofs.slices.drop_at.Goals as goal

pub returns : goal.returns
returns c =
    let was = c.index_mut.result.now in
    changed-set (HasLost c.args.slots.now) c.args.slices.now.items c.args.place was
    (record { start = was.start; epoch = was.epoch; table = c.drop_slots.new.self }) c.requires (record {
      start = ap (λ (s : Slice). s.start) c.index_mut.ensures.value;
      epoch = ap (λ (s : Slice). s.epoch) c.index_mut.ensures.value;
      lost = subst (λ (s : Slice). (k : ℕ) → cells_at c.drop_slots.new.self k ≡ dropped (cells_at s.table) c.args.slots.now k) c.index_mut.ensures.value c.drop_slots.ensures;
    })
