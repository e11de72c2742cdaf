-- Lists that steps which may change places cannot tell apart.
use Rattle.std.specs.Prelude.{◌≡◌, ℕ, ◌==◌, Bool, false, List, [], ◌∷◌}
use Rattle.std.specs.List.{fold, list_any}

module _ {X B : Type 0} (step : B → X → B) where
  -- any two steps may change places
  abbrev pub Free : Type 0
  Free = (b : B) (x y : X) → step (step b x) y ≡ step (step b y) x

-- the steps make the same of both lists
pub record Same {X B : Type 0} (step : B → X → B) (xs ys : List X) : Type 0 where
  pub same : (b : B) → fold step b xs ≡ fold step b ys

-- the number is one of these
abbrev pub member : ℕ → List ℕ → Bool
member c cs = list_any (λ d. d == c) cs

-- no number stands twice
abbrev pub Once : List ℕ → Type 0
Once [] = Unit {0}
Once (c ∷ cs) = (member c cs ≡ false) × Once cs
