-- Words of eight bytes, the first byte lowest.
use Rattle.std.specs.Prelude.{ℕ, ◌≡◌, ◌<◌, ◌≤◌, ◌+◌, ◌-◌, ◌*◌, List, [], ◌∷◌, ◌++◌, map, length, take, replicate}
use Rattle.std.specs.Char.{digit_value}
use Rattle.std.specs.List.{AllByRecursion}

-- the word of these bytes
abbrev pub word_of : List ℕ → ℕ
word_of [] = 0
word_of (b ∷ bytes) = b + 256 * word_of bytes

-- the word has just these eight bytes
pub record IsWordOf (bytes : List ℕ) (word : ℕ) : Type 0 where
  pub eight : length bytes ≡ 8
  pub each : AllByRecursion (λ b. b < 256) bytes
  pub is : word ≡ word_of bytes

-- the byte is one of `0` to `9`
abbrev pub IsDigit : ℕ → Type 0
IsDigit b = (48 ≤ b) × (b ≤ 57)

-- the digits that the first n of eight bytes write, with zeros in the places before them
abbrev pub last_digits : ℕ → List ℕ → List ℕ
last_digits n bytes = replicate (8 - n) 0 ++ map digit_value (take n bytes)
