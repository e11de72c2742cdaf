-- Parts of a text as slices have them.
use Rattle.std.specs.Prelude.{ℕ, List, map}
use denote.Ref.{Bor}

-- the bytes of each part
abbrev pub parts_at : List (Bor (List ℕ)) → List (List ℕ)
parts_at parts = map (λ part. part.now) parts
