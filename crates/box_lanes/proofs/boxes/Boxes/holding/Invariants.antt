use Rattle.std.proofs.Common.{◌≡◌, ◌*◌, map, take}
use Rattle.std.specs.Simd.Lanes.{mask_l}
use Rattle.as_base.specs.Query.{holds_all}
use Rattle.box_lanes.proofs.boxes.Boxes.holding.Given as goal

abbrev pub invariant-loop-pair : goal.invariant-loop-pair
invariant-loop-pair l = l.word ≡ mask_l (map (λ b. holds_all b l.g) (take (2 * l.pair) l.self))
