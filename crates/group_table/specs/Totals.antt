-- The number of all cells.
use Rattle.std.specs.Prelude.{ℕ, zero, suc, ◌+◌, List, length}
use Rattle.as_base.specs.declared.fragment.Cell.{Cell}

-- how many cells the slots below this one have
unfoldable pub total_below : ℕ → (ℕ → List Cell) → ℕ
total_below zero cells = 0
total_below (suc slot) cells = total_below slot cells + length (cells slot)

-- how many cells the 512 slots have
unfoldable pub total : (ℕ → List Cell) → ℕ
total cells = total_below 512 cells
