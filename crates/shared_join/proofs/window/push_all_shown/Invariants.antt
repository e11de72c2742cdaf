use Rattle.std.proofs.Common.{◌≡◌, ◌++◌, take}
use Rattle.std.specs.List.{flat_map}
use Rattle.shared_join.specs.Window.{shown}
use Rattle.shared_join.proofs.window.push_all_shown.Given as goal

-- the pairs so far
abbrev pub invariant-loop-pair : goal.invariant-loop-pair
invariant-loop-pair l = l.couples.items ≡ l.initial.couples.items ++ flat_map (shown l.window) (take l.pair-index l.pairs)
