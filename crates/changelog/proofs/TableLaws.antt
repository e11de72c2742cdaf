-- The spans of each slot, where the table grows, and where one slot has a new owner.
use Rattle.std.proofs.Common.{◌≡◌, ℕ, zero, suc, ◌+◌, ◌<◌, ◌≤◌, eqb, Bool, true, false, cond, List, [], ◌∷◌, ◌++◌, length, get_or, set, take, drop, refl, sym, ap, subst, ◌∙◌, ⊎_elim, arith}
use Rattle.std.proofs.lemmas.Bool.{eqb-true, eqb-false, cases_lt}
use Rattle.std.proofs.lemmas.List.{get_or-set_same, get_or-set_other, take_all, take-append-le}
use Rattle.changelog.specs.declared.spans.Span.{Span}
use Rattle.changelog.specs.EpochsFor.{spans_of}
use Rattle.changelog.specs.Spans.{holder_at, BeginAfter}

-- a slot more, without an owner
pub spans_of-more : (table : List (List Span)) (slot : ℕ) → spans_of (table ++ [] ∷ []) slot ≡ spans_of table slot
spans_of-more [] zero = refl
spans_of-more [] (suc slot) = refl
spans_of-more (xs ∷ table) zero = refl
spans_of-more (xs ∷ table) (suc slot) = spans_of-more table slot

-- a slot past the table has no owner
pub spans_of-past : (table : List (List Span)) (slot : ℕ) → length table ≤ slot → spans_of table slot ≡ []
spans_of-past [] zero past = refl
spans_of-past [] (suc slot) past = refl
spans_of-past (xs ∷ table) zero past = absurd (omega (arith, past))
spans_of-past (xs ∷ table) (suc slot) past = spans_of-past table slot (omega (arith, past))

-- one slot changes, and no other
pub spans_of-set : (table : List (List Span)) (changed : ℕ) (ys : List Span) (slot : ℕ) → changed < length table → spans_of (set table changed ys) slot ≡ cond (eqb changed slot) ys (spans_of table slot)
spans_of-set table changed ys slot within = by_cases (eqb changed slot) refl
  where
    by_cases : (b : Bool) → eqb changed slot ≡ b → spans_of (set table changed ys) slot ≡ cond b ys (spans_of table slot)
    by_cases true e = ap (λ n. spans_of (set table changed ys) n) (sym (eqb-true changed slot e)) ∙ get_or-set_same table changed ys [] within
    by_cases false e = get_or-set_other table changed slot ys [] (λ same. eqb-false changed slot e (sym same))

-- within a list no default is taken
get_or-any : (table : List (List Span)) (i : ℕ) (d : List Span) → i < length table → get_or table i d ≡ spans_of table i
get_or-any [] i d within = absurd (omega arith)
get_or-any (xs ∷ table) zero d within = refl
get_or-any (xs ∷ table) (suc i) d within = get_or-any table i d (omega arith)

-- one slot's spans are others that say the same
pub holder_at-set : (table : List (List Span)) (i : ℕ) (ys xs : List Span) (slot epoch : ℕ) → i < length table → xs ≡ get_or table i xs → holder_at ys epoch ≡ holder_at xs epoch
    → holder_at (spans_of (set table i ys) slot) epoch ≡ holder_at (spans_of table slot) epoch
holder_at-set table i ys xs slot epoch within is same = ap (λ zs. holder_at zs epoch) (spans_of-set table i ys slot within) ∙ by_cases (eqb i slot) refl
  where
    by_cases : (b : Bool) → eqb i slot ≡ b → holder_at (cond b ys (spans_of table slot)) epoch ≡ holder_at (spans_of table slot) epoch
    by_cases true e = same ∙ ap (λ zs. holder_at zs epoch) (is ∙ get_or-any table i xs within ∙ ap (spans_of table) (eqb-true i slot e))
    by_cases false e = refl

-- a table after its rows were written
pub written : (len : ℕ) (new old : List (List Span)) → len ≡ length new → take len (new ++ drop (length new) old) ≡ new
written len new old long = take-append-le len new (drop (length new) old) (omega (arith, long)) ∙ take_all len new (omega (arith, long))

-- ---- slots without owners of the past

pub freed-set : (table : List (List Span)) (i : ℕ) (ys : List Span) (epoch : ℕ) → i < length table → BeginAfter epoch (drop 1 ys) → ((slot : ℕ) → slot < i → BeginAfter epoch (drop 1 (spans_of table slot)))
    → (slot : ℕ) → slot < i + 1 → BeginAfter epoch (drop 1 (spans_of (set table i ys) slot))
freed-set table i ys epoch within here before slot le = subst (λ xs. BeginAfter epoch (drop 1 xs)) (sym (spans_of-set table i ys slot within)) (by_cases (eqb i slot) refl)
  where
    by_cases : (b : Bool) → eqb i slot ≡ b → BeginAfter epoch (drop 1 (cond b ys (spans_of table slot)))
    by_cases true e = here
    by_cases false e = before slot (omega (arith, le, eqb-false i slot e))

pub freed-all : (table : List (List Span)) (n epoch : ℕ) → length table ≤ n → ((slot : ℕ) → slot < n → BeginAfter epoch (drop 1 (spans_of table slot))) → (slot : ℕ) → BeginAfter epoch (drop 1 (spans_of table slot))
freed-all table n epoch all each slot = ⊎_elim
    (λ l. each slot l)
    (λ g. subst (λ xs. BeginAfter epoch (drop 1 xs)) (sym (spans_of-past table slot (omega (arith, g, all)))) tt)
    (cases_lt slot n)
