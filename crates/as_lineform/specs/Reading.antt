-- What is read of the words that are left, with the words left after it.
use Rattle.std.specs.Prelude.{ℕ, ℤ, ◌≡◌, Option, Some, None, List, [], ◌∷◌}
use Rattle.std.specs.Option.{option_map}
use Rattle.as_words.specs.Number.{integer}
use Rattle.as_lineform.specs.Item.{◌>>=◌}

-- the next word, as f reads it
abbrev pub next_by : {X : Type 0} → (List ℕ → Option X) → List (List ℕ) → Option (X × List (List ℕ))
next_by f [] = None
next_by f (word ∷ words) = option_map (λ x. (x, words)) (f word)

-- the next four words as numbers
abbrev pub next_four : List (List ℕ) → Option (List ℤ × List (List ℕ))
next_four words = do
  a ← next_by integer words
  b ← next_by integer a.1
  c ← next_by integer b.1
  d ← next_by integer c.1
  Some (a.0 ∷ b.0 ∷ c.0 ∷ d.0 ∷ [], d.1)

-- the result is what was read, and these words are left
abbrev pub Reads : {X : Type 0} → Option X → List (List ℕ) → Option (X × List (List ℕ)) → Type 0
Reads None words read = read ≡ None
Reads (Some x) words read = read ≡ Some (x, words)
