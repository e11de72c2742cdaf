-- Lists of sets of slots: entry e is the set of change e, and the first is entry 1.
use Rattle.std.specs.Prelude.{ℕ, ◌-◌, Bool, false, not, List, [], map, take, drop, slice_index_or}
use Rattle.std.specs.List.{list_any, range_with_len}

-- the set has the slot
abbrev pub has : ℕ → List Bool → Bool
has slot set = slice_index_or set slot false

-- some of the sets has the slot
abbrev pub some_has : ℕ → List (List Bool) → Bool
some_has slot sets = list_any (λ set. has slot set) sets

-- the slots that some of the sets has
unfoldable pub union_of : List (List Bool) → List Bool
union_of sets = map (λ slot. some_has slot sets) (range_with_len 0 512)

-- entry e
abbrev pub entry : List (List Bool) → ℕ → List Bool
entry sets e = slice_index_or sets (e - 1) []

-- entries i + 1 to j
abbrev pub entries : List (List Bool) → ℕ → ℕ → List (List Bool)
entries sets i j = take (j - i) (drop i sets)

-- the slots that none of the entries i + 1 to j has
unfoldable pub unchanged : List (List Bool) → ℕ → ℕ → List Bool
unchanged sets i j = map (λ slot. not (some_has slot (entries sets i j))) (range_with_len 0 512)
