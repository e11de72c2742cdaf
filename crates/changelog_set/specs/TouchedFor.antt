-- What is kept of entries, of which the first may have been trimmed. Several lists of entries stand for one value then.
use Rattle.std.specs.Prelude.{ℕ, ◌≡◌, ◌+◌, ◌-◌, ◌*◌, ◌≤◌, Bool, List, drop, length}
use Rattle.std.specs.List.{AllByRecursion}
use Rattle.changelog_set.specs.declared.touched.Touched.{Touched}
use Rattle.changelog_set.specs.declared.unions.Unions.{Unions}
use Rattle.changelog_set.specs.Blocks.{UnionsFor, gone_of, unions_of}

-- So many entries of 512 slots each, the last of them, and the unions of blocks, at least of all that begin where entries
-- are still held.
pub record Keeps (last : ℕ) (held : List (List Bool)) (unions : Unions) (sets : List (List Bool)) : Type 0 where
  pub count : last ≡ length sets
  pub slots : AllByRecursion (λ set. length set ≡ 512) sets
  pub few : length held ≤ length sets
  pub latest : held ≡ drop (length sets - length held) sets
  pub blocks : UnionsFor unions sets
  pub reach : 64 * gone_of unions + length held ≤ length sets

-- the value stands for the entries
abbrev pub TouchedFor : Touched → List (List Bool) → Type 0
TouchedFor t sets = Keeps t.last t.sets.items t.unions sets

-- no entry after this one was trimmed
abbrev pub IsKept : Touched → ℕ → Type 0
IsKept t i = t.last ≤ i + length t.sets.items

-- how many entries there are, trimmed ones included
abbrev pub last_of : Touched → ℕ
last_of t = t.last

-- how many entries are still held
abbrev pub held_of : Touched → ℕ
held_of t = length t.sets.items

-- how many unions of 64 entries are still held beside them
abbrev pub unions_held : Touched → ℕ
unions_held t = unions_of t.unions
