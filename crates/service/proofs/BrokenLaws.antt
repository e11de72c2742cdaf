-- Numbers that rise: where one stands, and where a new one goes.
use Rattle.std.proofs.Common.{ℕ, ◌≡◌, ◌≢◌, ◌⊎◌, ◌+◌, ◌-◌, ◌<◌, ◌≤◌, ◌==◌, nat_lt, Bool, true, false, cond, zero, suc, Result, Ok, Err, List, [], ◌∷◌, length, get_or, refl, sym, ap, subst, ◌∙◌, arith, ⊎_elim, inl, inr, MatchResult}
use Rattle.std.specs.List.{insert}
use Rattle.std.specs.Result.{is_ok}
use Rattle.std.specs.List.Sorted.{IsStrictlyIncreasing, IsBinarySearchResult}
use Rattle.std.specs.Ordering.{nat_cmp}
use Rattle.std.proofs.lemmas.Bool.{lt-ltb}
use Rattle.std.proofs.lemmas.Bool.Decides.{Decides-eqb}
use Rattle.std.proofs.lemmas.List.Edits.{length-insert, get_or-insert_at, get_or-insert_below, get_or-insert_above}
use Rattle.std.proofs.lemmas.List.Sums.{sum_by-remove}
use Rattle.std.proofs.lemmas.List.Sorted.{searched}
use Rattle.as_base.specs.Times.{times}
use Rattle.as_base.proofs.TimesLaws.{times-cons}
use Rattle.as_outside.proofs.MakesLaws.{same_number}

pub split : (m n : ℕ) → (m < n) ⊎ (n ≤ m)
split m zero = inr (omega arith)
split zero (suc n) = inl (omega arith)
split (suc m) (suc n) = ⊎_elim (λ l. inl (omega (arith, l))) (λ l. inr (omega (arith, l))) (split m n)

-- numbers that rise do not fall
not_falling : (xs : List ℕ) → IsStrictlyIncreasing xs → (i k : ℕ) → i + k < length xs → get_or xs i 0 ≤ get_or xs (i + k) 0
not_falling xs h i zero within = omega (arith, ap (λ n. get_or xs n 0) (let e : i + 0 ≡ i = omega arith in e))
not_falling xs h i (suc k) within =
    let before = not_falling xs h i k (omega (arith, within)) in
    let step = h (i + k) (omega (arith, within)) in
    let e : i + k + 1 ≡ i + suc k = omega arith in
    omega (arith, before, step, ap (λ n. get_or xs n 0) e)

ordered : (xs : List ℕ) → IsStrictlyIncreasing xs → (i j : ℕ) → i ≤ j → j < length xs → get_or xs i 0 ≤ get_or xs j 0
ordered xs h i j le within =
    let e : i + (j - i) ≡ j = omega (arith, le) in
    subst (λ n. get_or xs i 0 ≤ get_or xs n 0) e (not_falling xs h i (j - i) (omega (arith, e, within)))

-- what a binary search finds
pub found_or_not : (xs : List ℕ) (x : ℕ) (r : Result ℕ ℕ) → IsBinarySearchResult (λ y. nat_cmp y x) xs r → IsStrictlyIncreasing xs
    → MatchResult r (λ i. (i < length xs) × (get_or xs i 0 ≡ x)) (λ i. (i ≤ length xs) × ((k : ℕ) → k < i → get_or xs k 0 < x) × ((k : ℕ) → i ≤ k → k < length xs → x < get_or xs k 0))
found_or_not xs x r h up = searched xs x r h (ordered xs up)

-- a number that stands at a place
stands : (xs : List ℕ) (x i : ℕ) → i < length xs → get_or xs i 0 ≡ x → 0 < times x xs
stands xs x i within is =
    let one = ap {B = ℕ} (λ b. cond b 1 0) (ap (λ y. y == x) is ∙ same_number x) in
    omega (arith, sum_by-remove (λ m. cond (m == x) 1 0) xs i 0 within, one)

-- one that stands nowhere
stands_not : (xs : List ℕ) (x : ℕ) → ((k : ℕ) → k < length xs → get_or xs k 0 ≢ x) → times x xs ≡ 0
stands_not [] x h = refl
stands_not (y ∷ xs) x h =
    let rest = stands_not xs x (λ k within. h (suc k) (omega (arith, within))) in
    omega (arith, times-cons x y xs, rest, go (y == x) refl)
  where
    go : (b : Bool) → (y == x) ≡ b → times x (y ∷ []) ≡ 0
    go true is = absurd (h 0 (omega arith) ((Decides-eqb y x).0 is))
    go false is = let none = ap {B = ℕ} (λ b. cond b 1 0) is in omega (arith, none)

absent : (xs : List ℕ) (x i : ℕ) → ((k : ℕ) → k < i → get_or xs k 0 < x) → ((k : ℕ) → i ≤ k → k < length xs → x < get_or xs k 0) → times x xs ≡ 0
absent xs x i low high = stands_not xs x (λ k within same. ⊎_elim (λ l. let a = low k l in omega (arith, a, same)) (λ l. let a = high k l within in omega (arith, a, same)) (split k i))

pub contained : (xs : List ℕ) (x : ℕ) (r : Result ℕ ℕ) → IsBinarySearchResult (λ y. nat_cmp y x) xs r → IsStrictlyIncreasing xs → is_ok r ≡ nat_lt 0 (times x xs)
contained xs x (Ok i) h up = let f = found_or_not xs x (Ok i) h up in sym (lt-ltb 0 (times x xs) (stands xs x i f.0 f.1))
contained xs x (Err i) h up = let f = found_or_not xs x (Err i) h up in ap (nat_lt 0) (sym (absent xs x i f.1 f.2))

-- ---- a new number goes to its place

module _ (xs : List ℕ) (x i : ℕ) (le : i ≤ length xs) (low : (k : ℕ) → k < i → get_or xs k 0 < x) (high : (k : ℕ) → i ≤ k → k < length xs → x < get_or xs k 0) (h : IsStrictlyIncreasing xs) where
  size : length (insert xs i x) ≡ length xs + 1
  size = length-insert xs i x le

  -- the number itself, and the next
  at_place : i < length xs → get_or (insert xs i x) i 0 < get_or (insert xs i x) (i + 1) 0
  at_place within = let above = high i (omega arith) within in omega (arith, above, get_or-insert_at xs i x 0 le, get_or-insert_above xs i x 0 i (omega arith) le)

  -- those after it
  after_place : (k : ℕ) → i < k → k < length xs → get_or (insert xs i x) k 0 < get_or (insert xs i x) (k + 1) 0
  after_place zero past within = absurd (omega (arith, past))
  after_place (suc k) past within =
      let e : k + 1 ≡ suc k = omega arith in
      let step = h k (omega (arith, within)) in
      let here = get_or-insert_above xs i x 0 k (omega (arith, past)) le in
      let next = get_or-insert_above xs i x 0 (suc k) (omega (arith, past)) le in
      omega (arith, step, here, next, ap (λ n. get_or (insert xs i x) n 0) e, ap (λ n. get_or xs n 0) e)

  -- the one before it, and those before that
  before_place : (k : ℕ) → k < i → (k + 1 < i) ⊎ (i ≤ k + 1) → get_or (insert xs i x) k 0 < get_or (insert xs i x) (k + 1) 0
  before_place k below (inl further) = let step = h k (omega (arith, further, le)) in omega (arith, step, get_or-insert_below xs i x 0 k below le, get_or-insert_below xs i x 0 (k + 1) further le)
  before_place k below (inr next) =
      let e : k + 1 ≡ i = omega (arith, below, next) in
      let under = low k below in
      omega (arith, under, get_or-insert_below xs i x 0 k below le, ap (λ n. get_or (insert xs i x) n 0) e, get_or-insert_at xs i x 0 le)

  from_place : (k : ℕ) → k < length xs → i ≤ k → (i < k) ⊎ (k ≤ i) → get_or (insert xs i x) k 0 < get_or (insert xs i x) (k + 1) 0
  from_place k within from (inl past) = after_place k past within
  from_place k within from (inr least) =
      let e : k ≡ i = omega (arith, from, least) in
      subst (λ n. get_or (insert xs i x) n 0 < get_or (insert xs i x) (n + 1) 0) (sym e) (at_place (omega (arith, e, within)))

  pub rising-insert : IsStrictlyIncreasing (insert xs i x)
  rising-insert k within =
      let within' : k < length xs = omega (arith, size, within) in
      ⊎_elim (λ below. before_place k below (split (k + 1) i)) (λ from. from_place k within' from (split i k)) (split k i)

-- one that stands there already is not new
pub found-old : (xs : List ℕ) (x i : ℕ) → IsBinarySearchResult (λ y. nat_cmp y x) xs (Ok i) → IsStrictlyIncreasing xs → 0 < times x xs
found-old xs x i h up = let f = found_or_not xs x (Ok i) h up in stands xs x i f.0 f.1
