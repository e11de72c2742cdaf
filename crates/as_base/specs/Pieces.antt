-- Pieces of outputs: their order, and what they have for one output.
use Rattle.std.specs.Prelude.{ℕ, ◌≢◌, ◌==◌, if◌then◌else◌, List, [], map}
use Rattle.std.specs.List.{flat_map, AllByRecursion}
use Rattle.std.specs.List.Sorted.{IsStrictlyIncreasing}
use Rattle.as_base.specs.declared.answer.Piece.{Piece}

-- the bytes that the pieces have for output n
abbrev pub bytes_for : ℕ → List Piece → List ℕ
bytes_for n pieces = flat_map (λ (p : Piece). if p.n == n then p.bytes else []) pieces

-- pieces stand by rising query number, and none is empty
pub record ArePieces (pieces : List Piece) : Type 0 where
  pub rising : IsStrictlyIncreasing (map (λ (p : Piece). p.n) pieces)
  pub full : AllByRecursion (λ (p : Piece). p.bytes ≢ []) pieces
