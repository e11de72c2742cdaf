use Rattle.std.proofs.Common.{◌≡◌, ◌≤◌, ◌<◌, ◌-◌, ℕ, cond, []}
use Rattle.as_base.specs.declared.stream.StreamId.{StreamId}
use Rattle.shared_agg.specs.Aggs.{cells_in}
use Rattle.part_state.specs.Dropped.{Thinned, are_dropped}
use Rattle.part_state.proofs.drop.drop_passed.Given as goal

abbrev pub invariant-loop-next : goal.invariant-loop-next
invariant-loop-next l =
    (l.next ≤ l.mark)
    × ((t : StreamId) (c slot : ℕ) → slot < 512 → cells_in l.aggs t c slot ≡ cond (are_dropped l.s l.next l.marks l.entries t c slot) [] (cells_in l.initial.aggs t c slot))
    × Thinned l.initial.aggs l.aggs

abbrev pub decreases-loop-next : goal.decreases-loop-next
decreases-loop-next l = l.mark - l.next
