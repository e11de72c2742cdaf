-- How often a number stands in lists joined.
use Rattle.std.proofs.Common.{ℕ, ◌≡◌, ◌+◌, List, [], ◌∷◌, ◌++◌}
use Rattle.std.proofs.lemmas.List.Sums.{sum_by-append}
use Rattle.as_base.specs.Times.{times}

pub times-append : (n : ℕ) (a b : List ℕ) → times n (a ++ b) ≡ times n a + times n b
times-append n a b = sum_by-append _ a b

pub times-cons : (n m : ℕ) (numbers : List ℕ) → times n (m ∷ numbers) ≡ times n (m ∷ []) + times n numbers
times-cons n m numbers = times-append n (m ∷ []) numbers
