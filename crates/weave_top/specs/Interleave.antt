-- When a list of items interleaves those of the feeders.
use Rattle.std.specs.Prelude.{ℕ, ◌≡◌, ◌≢◌, ◌<◌, Option, Some, List, [], ◌∷◌}
use Rattle.as_words.specs.Prefix.{IsPrefix}
use Rattle.as_base.specs.declared.item.Item.{Item}

-- The items are those of feeders 1 to 5, each feeder's in its order: the first is the first of one feeder, and the others
-- interleave what is left.
abbrev pub Interleaves : List Item → (ℕ → List Item) → Type 0
Interleaves [] lists = (i : ℕ) → 0 < i → i < 6 → lists i ≡ []
Interleaves (x ∷ items) lists =
    (n : ℕ) × (0 < n) × (n < 6) × ((rest : ℕ → List Item) × (lists n ≡ x ∷ rest n) × ((i : ℕ) → i ≢ n → lists i ≡ rest i) × Interleaves items rest)

-- The items interleave the first items of each feeder; of the feeder that is named, if one is, all of them.
pub record IsMixed (named : Option ℕ) (items : List Item) (lists : ℕ → List Item) : Type 0 where
  pub fronts : ℕ → List Item
  pub prefixes : (i : ℕ) → 0 < i → i < 6 → IsPrefix (fronts i) (lists i)
  pub whole : (n : ℕ) → named ≡ Some n → fronts n ≡ lists n
  pub mixed : Interleaves items fronts
