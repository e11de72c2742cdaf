use Rattle.std.proofs.Common.{◌≡◌, ◌<◌, ℕ, length, get_or, map, Bool}
use Rattle.shared_agg.specs.declared.duties.Class.{Class}
use Rattle.queryset_lanes.specs.Slots.{has_slot}
use Rattle.shared_agg.proofs.duties.used_of.Given as goal

abbrev pub invariant-loop-place : goal.invariant-loop-place
invariant-loop-place l = record {
  long : length l.used ≡ 30;
  so_far : (k : ℕ) (b d : Bool) → k < l.place → get_or l.used k b ≡ get_or (map (λ (c : Class). has_slot c.slots) l.classes) k d;
}
