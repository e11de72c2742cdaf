-- The greatest and the least of what numbers have, and of the edges of a table of slots.
use Rattle.std.proofs.Common.{◌≡◌, ℕ, zero, suc, ◌+◌, ◌^◌, ◌<◌, ◌≤◌, max, min, List, length, refl, ap, ◌∙◌, ⊎_elim, arith}
use Rattle.std.proofs.lemmas.Bool.{cases_lt}
use Rattle.as_base.specs.declared.stream.StreamId.{StreamId}
use Rattle.changelog.specs.declared.spans.Span.{Span}
use Rattle.changelog.specs.Changes.{greatest_below, edge_of}
use Rattle.changelog.specs.Ends.{least_below, edge_after}
use Rattle.changelog.specs.EpochsFor.{spans_of}
use Rattle.changelog.specs.Spans.{holder_at}
use Rattle.changelog.proofs.TableLaws.{spans_of-past}

pub greatest_below-none : (f : ℕ → ℕ) → greatest_below f 0 ≡ 0
unfolding greatest_below
greatest_below-none f = refl

pub greatest_below-more : (f : ℕ → ℕ) (n : ℕ) → greatest_below f (n + 1) ≡ max (greatest_below f n) (f n)
unfolding greatest_below
greatest_below-more f n = let next : n + 1 ≡ suc n = omega arith in ap (greatest_below f) next

pub greatest_below-same : (f g : ℕ → ℕ) (n : ℕ) → ((k : ℕ) → f k ≡ g k) → greatest_below f n ≡ greatest_below g n
greatest_below-same f g n same = ap (λ (h : ℕ → ℕ). greatest_below h n) (λ i k. same k i)

pub greatest_below-step : (f : ℕ → ℕ) (n edge latest result : ℕ) → result ≡ max edge latest → edge ≡ f n → latest ≡ greatest_below f n → result ≡ greatest_below f (n + 1)
greatest_below-step f n edge latest result is here before = omega (arith, is, here, before, greatest_below-more f n)

pub greatest_below-le : (f : ℕ → ℕ) (t n : ℕ) → ((k : ℕ) → f k ≤ t) → greatest_below f n ≤ t
unfolding greatest_below
greatest_below-le f t zero most = omega arith
greatest_below-le f t (suc n) most = let rest = greatest_below-le f t n most in let here = most n in omega (arith, rest, here)

-- numbers that have 0 add nothing
greatest_below-past : (f : ℕ → ℕ) (n m : ℕ) → n ≤ m → ((k : ℕ) → n ≤ k → k < m → f k ≡ 0) → greatest_below f n ≡ greatest_below f m
unfolding greatest_below
greatest_below-past f n zero within none = let is : n ≡ 0 = omega (arith, within) in ap (greatest_below f) is
greatest_below-past f n (suc m) within none = ⊎_elim
    (λ before. let rest = greatest_below-past f n m (omega (arith, before)) (λ k le lt. none k le (omega (arith, lt))) in let here = none m (omega (arith, before)) (omega arith) in
    omega (arith, rest, here))
    (λ after. let is : n ≡ suc m = omega (arith, within, after) in ap (greatest_below f) is)
    (cases_lt n (suc m))

pub least_below-none : (f : ℕ → ℕ) → least_below f 0 ≡ 2 ^ 62
unfolding least_below
least_below-none f = refl

pub least_below-more : (f : ℕ → ℕ) (n : ℕ) → least_below f (n + 1) ≡ min (least_below f n) (f n)
unfolding least_below
least_below-more f n = let next : n + 1 ≡ suc n = omega arith in ap (least_below f) next

pub least_below-step : (f : ℕ → ℕ) (n edge next result : ℕ) → result ≡ min edge next → edge ≡ f n → next ≡ least_below f n → result ≡ least_below f (n + 1)
least_below-step f n edge next result is here before = omega (arith, is, here, before, least_below-more f n)

least_below-most : (f : ℕ → ℕ) (n : ℕ) → least_below f n ≤ 2 ^ 62
unfolding least_below
least_below-most f zero = omega arith
least_below-most f (suc n) = let rest = least_below-most f n in omega (arith, rest)

-- a number is below the least if it is below each
pub least_below-lt : (f : ℕ → ℕ) (t n : ℕ) → t < 2 ^ 62 → ((k : ℕ) → t < f k) → t < least_below f n
unfolding least_below
least_below-lt f t zero most below = most
least_below-lt f t (suc n) most below = let rest = least_below-lt f t n most below in let here = below n in omega (arith, rest, here)

-- numbers that have 2^62 take nothing
least_below-past : (f : ℕ → ℕ) (n m : ℕ) → n ≤ m → ((k : ℕ) → n ≤ k → k < m → f k ≡ 2 ^ 62) → least_below f n ≡ least_below f m
unfolding least_below
least_below-past f n zero within none = let is : n ≡ 0 = omega (arith, within) in ap (least_below f) is
least_below-past f n (suc m) within none = ⊎_elim
    (λ before. let rest = least_below-past f n m (omega (arith, before)) (λ k le lt. none k le (omega (arith, lt))) in let here = none m (omega (arith, before)) (omega arith) in
    let most = least_below-most f m in omega (arith, rest, here, most))
    (λ after. let is : n ≡ suc m = omega (arith, within, after) in ap (least_below f) is)
    (cases_lt n (suc m))

-- what is the same below each is so below the least
pub greatest_below-while : (f g after : ℕ → ℕ) (u n : ℕ) → ((k : ℕ) → u < after k → f k ≡ g k) → u < least_below after n → greatest_below f n ≡ greatest_below g n
unfolding greatest_below least_below
greatest_below-while f g after u zero same below = refl
greatest_below-while f g after u (suc n) same below =
    let rest = greatest_below-while f g after u n same (omega (arith, below)) in
    let here = same n (omega (arith, below)) in
    λ i. max (rest i) (here i)

-- ---- a table of slots, of which none past it has an owner

pub last-edges : (table : List (List Span)) (epoch : ℕ) (s : StreamId) (t n latest : ℕ) → n ≡ min (length table) 512
    → latest ≡ greatest_below (λ slot. edge_of s t (holder_at (spans_of table slot) epoch)) n → latest ≡ greatest_below (λ slot. edge_of s t (holder_at (spans_of table slot) epoch)) 512
last-edges table epoch s t n latest all is = is ∙ greatest_below-past (λ slot. edge_of s t (holder_at (spans_of table slot) epoch)) n 512 (omega (arith, all))
    (λ slot le lt. ap (λ xs. edge_of s t (holder_at xs epoch)) (spans_of-past table slot (omega (arith, all, le, lt))))

pub next-edges : (table : List (List Span)) (epoch : ℕ) (s : StreamId) (t n next : ℕ) → n ≡ min (length table) 512
    → next ≡ least_below (λ slot. edge_after s t (holder_at (spans_of table slot) epoch)) n → next ≡ least_below (λ slot. edge_after s t (holder_at (spans_of table slot) epoch)) 512
next-edges table epoch s t n next all is = is ∙ least_below-past (λ slot. edge_after s t (holder_at (spans_of table slot) epoch)) n 512 (omega (arith, all))
    (λ slot le lt. ap (λ xs. edge_after s t (holder_at xs epoch)) (spans_of-past table slot (omega (arith, all, le, lt))))
