use Rattle.std.proofs.Common.{◌≡◌, ℕ, ◌/◌, ◌%◌, eqb, ltb, cond}
use Rattle.shared_join.specs.Joins.{lane_at, forgotten}
use Rattle.shared_join.proofs.joins.forget_all.Given as goal

-- the lanes so far have forgotten the slice
abbrev pub invariant-loop-place : goal.invariant-loop-place
invariant-loop-place l = (k : ℕ) →
    lane_at l.lanes k ≡ cond (ltb k l.place) (forgotten (eqb (k / 4) l.stream) (eqb (k % 4) l.stream) l.start (lane_at l.initial.lanes k)) (lane_at l.initial.lanes k)
