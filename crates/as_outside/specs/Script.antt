-- What the script of a desk in memory says of a call, and what the cuts of a desk or a source in memory say of a pull.
use Rattle.std.specs.Prelude.{ℕ, ◌==◌, if◌then◌else◌, Option, None, Some, List, [], ◌∷◌, slice_index_or, min}

-- how many bytes move before the call with this number fails, by the first entry for it; none: it does not fail
abbrev pub fault_at : List (ℕ × ℕ) → ℕ → Option ℕ
fault_at [] call = None
fault_at ((number, count) ∷ fails) call = if number == call then Some count else fault_at fails call

-- how many bytes the pull at this place, from 0, may move into a buffer of this length
abbrev pub cut_at : List ℕ → ℕ → ℕ → ℕ
cut_at cuts pull room = let cut = slice_index_or cuts pull 0 in if cut == 0 then room else min cut room
