-- How often a number stands in a list.
use Rattle.std.specs.Prelude.{ℕ, ◌==◌, if◌then◌else◌, List}
use Rattle.std.specs.List.{sum_by}

-- how often the number stands in the list
abbrev pub times : ℕ → List ℕ → ℕ
times n numbers = sum_by (λ m. if m == n then 1 else 0) numbers
