-- The queries of any items have each a number of its own.
use Rattle.std.proofs.Common.{◌≡◌, ℕ, zero, suc, ◌+◌, ◌≤◌, ◌<◌, eqb, Bool, true, false, cond, List, [], ◌∷◌, length, refl, ap, arith}
use Rattle.std.specs.List.{range_with_len}
use Rattle.std.proofs.lemmas.Bool.{ne_eqb, eqb-true}
use Rattle.as_base.specs.declared.config.Config.{Config}
use Rattle.as_base.specs.declared.item.Item.{Item}
use Rattle.as_base.specs.Times.{times}
use Rattle.as_base.proofs.TimesLaws.{times-cons}
use Rattle.session.specs.Book.{book, numbers}
use Rattle.session.proofs.BookLaws.{book-in_order}

times_low : (n a k : ℕ) → n < a → times n (range_with_len a k) ≡ 0
times_low n a zero low = refl
times_low n a (suc k) low =
    let here : times n (a ∷ []) ≡ 0 = ap (λ b. 0 + cond b 1 0) (ne_eqb a n (λ same. omega (arith, low, same))) in
    let rest = times_low n (a + 1) k (omega (arith, low)) in
    let all = times-cons n a (range_with_len (a + 1) k) in
    omega (arith, here, rest, all)

-- among numbers that rise by one, each stands at most once
times_once : (n a k : ℕ) → times n (range_with_len a k) ≤ 1
times_once n a zero = omega arith
times_once n a (suc k) = go (eqb a n) refl (times_once n (a + 1) k)
  where
    go : (b : Bool) → eqb a n ≡ b → times n (range_with_len (a + 1) k) ≤ 1 → times n (range_with_len a (suc k)) ≤ 1
    go true is others =
        let same = eqb-true a n is in
        let here : times n (a ∷ []) ≡ 1 = ap (λ b. 0 + cond b 1 0) is in
        let rest = times_low n (a + 1) k (omega (arith, same)) in
        let all = times-cons n a (range_with_len (a + 1) k) in
        omega (arith, here, rest, all)
    go false is others =
        let here : times n (a ∷ []) ≡ 0 = ap (λ b. 0 + cond b 1 0) is in
        let all = times-cons n a (range_with_len (a + 1) k) in
        omega (arith, here, others, all)

-- no number is that of two queries
pub number_once : (c : Config) (h : List Item) (n : ℕ) → times n (numbers c h) ≤ 1
number_once c h n = let all = ap (times n) (book-in_order c h) in omega (arith, all, times_once n 1 (length (book c h)))
