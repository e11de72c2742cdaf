use Rattle.std.proofs.Common.{◌≡◌, ◌*◌, ◌≤◌, take, count_by, sum_by}
use Rattle.queryset_lanes.specs.Slots.{meets}
use Rattle.queryset_lanes.proofs.meeting_in_blocks.Given as goal

abbrev pub invariant-loop-block : goal.invariant-loop-block
invariant-loop-block l = record {
  fits : l.count ≤ l.block-index * 8;
  so_far : l.count ≡ sum_by (λ block. count_by (λ set. meets set l.mask) block) (take l.block-index l.blocks);
}
