-- Entries in blocks of 64, of which the unions are kept beside them.
use Rattle.std.specs.Prelude.{ℕ, ◌≡◌, ◌<◌, ◌≤◌, Bool, List, [], ◌∷◌, ◌++◌, length, map, drop}
use Rattle.std.specs.List.{AllByRecursion}
use Rattle.changelog_set.specs.declared.unions.Unions.{Unions}
use Rattle.changelog_set.specs.Sets.{union_of}

-- the entries of the blocks, one after another
abbrev pub joined : List (List (List Bool)) → List (List Bool)
joined [] = []
joined (block ∷ blocks) = block ++ joined blocks

-- The entries are some blocks of 64 and fewer than 64 after these. Of the blocks the unions are held, but for the first
-- ones, which were let go; of those after the blocks how many they are and their union.
pub record Unites (gone : ℕ) (whole : List (List Bool)) (count : ℕ) (begun : List Bool) (sets : List (List Bool)) : Type 0 where
  pub blocks : List (List (List Bool))
  pub rest : List (List Bool)
  pub all : sets ≡ joined blocks ++ rest
  pub full : AllByRecursion (λ block. length block ≡ 64) blocks
  pub within : gone ≤ length blocks
  pub unions : whole ≡ drop gone (map union_of blocks)
  pub few : count < 64
  pub after : length rest ≡ count
  pub union : begun ≡ union_of rest

-- the value holds the unions of these entries
abbrev pub UnionsFor : Unions → List (List Bool) → Type 0
UnionsFor u sets = Unites u.gone u.whole.items u.count u.begun sets

-- how many blocks have no union any more
abbrev pub gone_of : Unions → ℕ
gone_of u = u.gone

-- of how many blocks the union is held
abbrev pub unions_of : Unions → ℕ
unions_of u = length u.whole.items
