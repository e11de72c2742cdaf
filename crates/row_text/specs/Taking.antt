-- What is read of a line and of one word, and what is taken off the front of the words that are left.
use Rattle.std.specs.Prelude.{ℕ, ◌≡◌, ◌≢◌, ℤ, Option, Some, List, [], ◌∷◌, ◌++◌, map, codes, decimal, length}
use Rattle.std.specs.List.{AllByRecursion}
use Rattle.std.specs.Fmt.{signed_decimal}
use Rattle.as_words.specs.Number.{IsSigned}
use Rattle.as_base.specs.declared.item.Given.{Given}
use Rattle.as_base.specs.declared.query.Kind.{Kind}
use Rattle.as_base.specs.declared.query.Kind.TheVariants.{Sum, Count}

-- the bytes are no line with a line feed behind it
abbrev pub HasNoLine : List ℕ → Type 0
HasNoLine bytes = (line : List ℕ) → bytes ≢ line ++ codes "\n"

-- The result is x just where x has P and the word is its spelling.
pub record Spells {X : Type 0} (P : X → Type 0) (spelling : X → List ℕ) (result : Option X) (word : List ℕ) : Type 0 where
  pub right : (x : X) → result ≡ Some x → P x × (word ≡ spelling x)
  pub found : (x : X) → P x → word ≡ spelling x → result ≡ Some x

-- The result is x, and these words are left, just where x has P and the words were those of x and then these.
pub record Takes {X : Type 0} (P : X → Type 0) (words_of : X → List (List ℕ)) (result : Option X) (old new : List (List ℕ)) : Type 0 where
  pub right : (x : X) → result ≡ Some x → P x × (old ≡ words_of x ++ new)
  pub found : (x : X) (rest : List (List ℕ)) → P x → old ≡ words_of x ++ rest → (result ≡ Some x) × (new ≡ rest)

-- the one word of a number, and of a signed number
abbrev pub natural_words : ℕ → List (List ℕ)
natural_words n = decimal n ∷ []

abbrev pub integer_words : ℤ → List (List ℕ)
integer_words z = signed_decimal z ∷ []

-- the words of a record by itself, and of a window's start and end
abbrev pub given_words : Given → List (List ℕ)
given_words g = decimal g.time ∷ signed_decimal g.key ∷ map signed_decimal g.v

abbrev pub window_words : ℕ × ℕ → List (List ℕ)
window_words w = decimal w.0 ∷ decimal w.1 ∷ []

-- so many signed numbers
abbrev pub FitsValues : ℕ → List ℤ → Type 0
FitsValues n v = (length v ≡ n) × AllByRecursion IsSigned v

-- queries of this kind have values
abbrev pub HasValue : Kind → Type 0
HasValue (Sum c) = Unit {0}
HasValue Count = Unit {0}
HasValue _ = ⊥
