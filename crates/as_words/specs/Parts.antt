-- Parts of bytes between separators.
use Rattle.std.specs.Prelude.{ℕ, ◌==◌, if◌then◌else◌, Option, Some, None, List, [], ◌∷◌}
use denote.Ref.{Bor}

-- the byte stands at the front of the first part
abbrev pub onto_first : ℕ → List (List ℕ) → List (List ℕ)
onto_first b [] = (b ∷ []) ∷ []
onto_first b (part ∷ parts) = (b ∷ part) ∷ parts

-- the parts between separators, one more than there are separators
abbrev pub parts_of : ℕ → List ℕ → List (List ℕ)
parts_of separator [] = [] ∷ []
parts_of separator (b ∷ bytes) = if b == separator then [] ∷ parts_of separator bytes else onto_first b (parts_of separator bytes)

-- all parts but the last
abbrev pub but_last : List (List ℕ) → List (List ℕ)
but_last [] = []
but_last (part ∷ []) = []
but_last (part ∷ next ∷ parts) = part ∷ but_last (next ∷ parts)

-- the last part
abbrev pub last_of : List (List ℕ) → List ℕ
last_of [] = []
last_of (part ∷ []) = part
last_of (part ∷ next ∷ parts) = last_of (next ∷ parts)

-- the words of what is left of a line; nothing left has none
abbrev pub words_of : Option (Bor (List ℕ)) → List (List ℕ)
words_of None = []
words_of (Some rest) = parts_of 32 rest.now
