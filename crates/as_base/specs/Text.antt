-- Query texts.
use Rattle.std.specs.Prelude.{ℕ, Bool, true, ◌&&◌, nat_le, List, [], ◌∷◌, length}
use Rattle.as_words.specs.Words.{is_words}

-- The bytes are a query text: none, or words with one space between two, at most 4,089 bytes.
abbrev pub is_text : List ℕ → Bool
is_text [] = true
is_text (b ∷ bytes) = nat_le (length (b ∷ bytes)) 4089 && is_words (b ∷ bytes)
