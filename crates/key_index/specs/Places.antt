-- The places that each key has.
use Rattle.std.specs.Prelude.{ℕ, ℤ, if◌then◌else◌, List, [], ◌∷◌, ◌++◌}
use Rattle.std.specs.Option.{option_map_or}
use Rattle.std.specs.Ordering.{int_eq}
use Rattle.indexmap.specs.IndexMap.{get}
use Rattle.key_index.specs.declared.KeyIndex.{KeyIndex}

-- the places of the key, in the order in which they were added; none where the key was not added
abbrev pub places_of : KeyIndex → ℤ → List ℕ
places_of index key = option_map_or (λ list. list.items) (get int_eq index.lists key) []

-- the lists, with the place last in the key's
abbrev pub added : (ℤ → List ℕ) → ℤ → ℕ → ℤ → List ℕ
added lists key place k = if int_eq k key then lists k ++ place ∷ [] else lists k
