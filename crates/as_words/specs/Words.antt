-- Words between single spaces.
use Rattle.std.specs.Prelude.{ℕ, not, ◌==◌, ◌&&◌, nat_le, length, if◌then◌else◌, Bool, Option, Some, None, List, [], ◌∷◌, ◌++◌}
use Rattle.std.specs.List.{list_all}
use Rattle.std.specs.Str.{bytes_eq}
use Rattle.as_words.specs.Parts.{parts_of}

-- the byte may stand in a word: it is one of 33 to 126
abbrev pub is_word_byte : ℕ → Bool
is_word_byte b = nat_le 33 b && nat_le b 126

-- the bytes are one word
abbrev pub is_word : List ℕ → Bool
is_word bytes = not (length bytes == 0) && list_all is_word_byte bytes

-- the bytes are words, one or more, with one space between two
abbrev pub is_words : List ℕ → Bool
is_words bytes = list_all is_word (parts_of 32 bytes)

-- words, each after a space
abbrev pub spaced : List (List ℕ) → List ℕ
spaced [] = []
spaced (word ∷ words) = 32 ∷ word ++ spaced words

-- words with one space between two
abbrev pub joined : List (List ℕ) → List ℕ
joined [] = []
joined (word ∷ words) = word ++ spaced words

-- the first of these that the word spells, where `spell` is the spelling of each
abbrev pub pick : {X : Type 0} → (X → List ℕ) → List X → List ℕ → Option X
pick spell [] word = None
pick spell (x ∷ xs) word = if bytes_eq word (spell x) then Some x else pick spell xs word
