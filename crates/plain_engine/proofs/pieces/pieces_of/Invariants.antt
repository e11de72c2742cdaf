use Rattle.std.proofs.Common.{◌≡◌, take}
use Rattle.std.specs.List.{flat_map}
use Rattle.plain_engine.specs.Holding.{piece_due}
use Rattle.plain_engine.proofs.pieces.pieces_of.Given as goal

abbrev pub invariant-loop-holding : goal.invariant-loop-holding
invariant-loop-holding l = l.pieces.items ≡ flat_map (piece_due l.marks l.later) (take l.holding-index l.held)
