-- The list of broken outputs, what is added to it, and its room.
use Rattle.std.specs.Prelude.{ℕ, ◌≡◌, ◌≤◌, ◌+◌, ◌==◌, if◌then◌else◌, vec_len, vec_capacity}
use Rattle.as_base.specs.Times.{times}
use Rattle.service.specs.declared.broken.Broken.{Broken}

-- there is room for so many more
abbrev pub HasRoom : Broken → ℕ → Type 0
HasRoom b more = vec_len b.numbers + more ≤ vec_capacity b.numbers

-- output n is listed, and all others as they were
abbrev pub IsAdded : ℕ → Broken → Broken → Type 0
IsAdded n old new = (m : ℕ) → times m new.numbers.items ≡ (if n == m then 1 else times m old.numbers.items)

-- of the room at most so much was taken
abbrev pub TakesRoom : ℕ → Broken → Broken → Type 0
TakesRoom most old new = (vec_len new.numbers ≤ vec_len old.numbers + most) × (vec_capacity old.numbers ≤ vec_capacity new.numbers)
