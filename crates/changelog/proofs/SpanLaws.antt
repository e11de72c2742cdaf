-- Who owns a slot by its spans, where spans are added at the end or cut off the front.
use Rattle.std.proofs.Common.{◌≡◌, ℕ, zero, suc, ◌+◌, ◌-◌, ◌<◌, ◌≤◌, nat_le, false, cond, Option, None, List, [], ◌∷◌, ◌++◌, length, get_or, take, drop, refl, sym, ap, subst, ◌∙◌, arith}
use Rattle.std.proofs.lemmas.Bool.{le-leb, leb-true, false_from_ne_true}
use Rattle.std.proofs.lemmas.List.{take_more, drop_all, drop_more, drop-drop}
use Rattle.as_base.specs.declared.query.Plan.{Plan}
use Rattle.changelog.specs.declared.spans.Span.{Span}
use Rattle.changelog.specs.Spans.{holder_from, holder_at, BeginAfter}

pub holder_from-append : (before : Option (ℕ × Plan)) (xs ys : List Span) (epoch : ℕ) → holder_from before (xs ++ ys) epoch ≡ holder_from (holder_from before xs epoch) ys epoch
holder_from-append before [] ys epoch = refl
holder_from-append before (x ∷ xs) ys epoch = holder_from-append (cond (nat_le x.epoch epoch) x.holder before) xs ys epoch

pub holder_at-push : (xs : List Span) (x : Span) (epoch : ℕ) → holder_at (xs ++ x ∷ []) epoch ≡ cond (nat_le x.epoch epoch) x.holder (holder_at xs epoch)
holder_at-push xs x epoch = holder_from-append None xs (x ∷ []) epoch

over : (x : Span) (epoch : ℕ) → epoch < x.epoch → nat_le x.epoch epoch ≡ false
over x epoch h = false_from_ne_true _ (λ e. let l = leb-true x.epoch epoch e in omega (arith, l, h))

last_taken : (xs : List Span) (i : ℕ) (d : Span) → 0 < i → i ≤ length xs → take i xs ≡ take (i - 1) xs ++ get_or xs (i - 1) d ∷ []
last_taken xs i d some within = let next : i ≡ i - 1 + 1 = omega (arith, some) in ap (λ n. take n xs) next ∙ take_more xs (i - 1) d (omega (arith, some, within))

-- a span that began later says nothing
pub holder_at-later : (xs : List Span) (i : ℕ) (d : Span) (epoch : ℕ) → 0 < i → i ≤ length xs → epoch < (get_or xs (i - 1) d).epoch → holder_at (take i xs) epoch ≡ holder_at (take (i - 1) xs) epoch
holder_at-later xs i d epoch some within late =
    let x = get_or xs (i - 1) d in
    ap (λ ys. holder_at ys epoch) (last_taken xs i d some within)
    ∙ holder_at-push (take (i - 1) xs) x epoch
    ∙ ap (λ b. cond b x.holder (holder_at (take (i - 1) xs) epoch)) (over x epoch late)

-- the last span that began by then says it
pub holder_at-here : (xs : List Span) (i : ℕ) (d : Span) (epoch : ℕ) → 0 < i → i ≤ length xs → (get_or xs (i - 1) d).epoch ≤ epoch → holder_at (take i xs) epoch ≡ (get_or xs (i - 1) d).holder
holder_at-here xs i d epoch some within here =
    let x = get_or xs (i - 1) d in
    ap (λ ys. holder_at ys epoch) (last_taken xs i d some within)
    ∙ holder_at-push (take (i - 1) xs) x epoch
    ∙ ap (λ b. cond b x.holder (holder_at (take (i - 1) xs) epoch)) (le-leb x.epoch epoch here)

-- what stands before a span that began by then says nothing
pub holder_from-drop : (one other : Option (ℕ × Plan)) (xs : List Span) (i : ℕ) (d : Span) (epoch : ℕ) → i < length xs → (get_or xs i d).epoch ≤ epoch → holder_from one (drop i xs) epoch ≡ holder_from other xs epoch
holder_from-drop one other [] i d epoch within here = absurd (omega arith)
holder_from-drop one other (x ∷ xs) zero d epoch within here =
    ap (λ b. holder_from (cond b x.holder one) xs epoch) (le-leb x.epoch epoch here) ∙ sym (ap (λ b. holder_from (cond b x.holder other) xs epoch) (le-leb x.epoch epoch here))
holder_from-drop one other (x ∷ xs) (suc i) d epoch within here = holder_from-drop one (cond (nat_le x.epoch epoch) x.holder other) xs i d epoch (omega arith) here

-- ---- spans that begin after an epoch

pub none-after : (epoch : ℕ) (xs : List Span) (i : ℕ) → length xs ≤ i → BeginAfter epoch (drop i xs)
none-after epoch xs i past = subst (BeginAfter epoch) (sym (drop_all i xs past)) tt

pub after-more : (epoch : ℕ) (xs : List Span) (i : ℕ) (d : Span) → 0 < i → i ≤ length xs → epoch < (get_or xs (i - 1) d).epoch → BeginAfter epoch (drop i xs) → BeginAfter epoch (drop (i - 1) xs)
after-more epoch xs i d some within late after =
    let next : i ≡ i - 1 + 1 = omega (arith, some) in
    subst (BeginAfter epoch) (sym (drop_more xs (i - 1) d (omega (arith, some, within)))) (late, subst (λ n. BeginAfter epoch (drop n xs)) next after)

pub after-cut : (epoch : ℕ) (xs ys : List Span) (i : ℕ) → 0 < i → ys ≡ drop (i - 1) xs → BeginAfter epoch (drop i xs) → BeginAfter epoch (drop 1 ys)
after-cut epoch xs ys i some is after =
    let next : i - 1 + 1 ≡ i = omega (arith, some) in
    subst (λ zs. BeginAfter epoch (drop 1 zs)) (sym is) (subst (BeginAfter epoch) (sym (drop-drop 1 (i - 1) xs ∙ ap (λ n. drop n xs) next)) after)

pub after-all : (epoch : ℕ) (xs : List Span) (i : ℕ) → i ≤ 0 → BeginAfter epoch (drop i xs) → BeginAfter epoch (drop 1 xs)
after-all epoch [] i none after = tt
after-all epoch (x ∷ xs) zero none after = after.1
after-all epoch (x ∷ xs) (suc i) none after = absurd (omega (arith, none))
