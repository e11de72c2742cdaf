use Rattle.std.proofs.Common.{◌≡◌, take}
use Rattle.soak.specs.Tally.{with_pieces}
use Rattle.soak.proofs.tally.Tally.count_pieces.Given as goal

abbrev pub invariant-loop-piece : goal.invariant-loop-piece
invariant-loop-piece l = l.self ≡ with_pieces (take l.piece-index l.pieces) l.initial.self
