-- The set of the slots of queries, one query after another.
use Rattle.std.proofs.Common.{◌≡◌, inl, inr, ℕ, zero, suc, ◌+◌, ◌<◌, ◌&&◌, ◌||◌, eqb, Bool, cond, true, false, List, [], ◌∷◌, ◌++◌, map, set, take, length, get_or, replicate, refl, sym, ap, ap₂, ◌∙◌, arith}
use Rattle.std.proofs.lemmas.Bool.{eqb-true, eq-eqb, cases_Bool}
use Rattle.std.specs.List.{list_any, range_with_len}
use Rattle.views.specs.Slots.{Holder}
use Rattle.changelog.proofs.BySlotLaws.{replicate-map}
use Rattle.std.proofs.lemmas.List.Folds.{list_any-append}
use Rattle.std.proofs.lemmas.List.{take_more}
use Rattle.part_state.specs.declared.entries.Entry.{Entry}
use Rattle.part_state.specs.Entries.{holder_of, holders_in}
use Rattle.part_state.specs.Waiting.{slots_of}
use Rattle.part_state.proofs.ReaderLaws.{map-end}

plus-zero : (n : ℕ) → n ≡ 0 + n
plus-zero n = omega arith

or-false : (b : Bool) → (b || false) ≡ b
or-false true = refl
or-false false = refl

or-true : (b : Bool) → (b || true) ≡ true
or-true true = refl
or-true false = refl

apart : (a b : ℕ) → (a ≡ b → ⊥) → eqb a b ≡ false
apart a b f = elim (cases_Bool (eqb a b)) [
  | inl e ↦ absurd (f (eqb-true a b e))
  | inr e ↦ e
]

map-as : {X : Type 0} (f g : ℕ → X) (xs : List ℕ) → ((x : ℕ) → f x ≡ g x) → map f xs ≡ map g xs
map-as f g [] h = refl
map-as f g (x ∷ xs) h = ap₂ (λ y l. y ∷ l) (h x) (map-as f g xs h)

-- the numbers from a later one on are others
later-same : (f : ℕ → Bool) (a b n : ℕ) → a < b → map f (range_with_len b n) ≡ map (λ i. f i || eqb a i) (range_with_len b n)
later-same f a b zero l = refl
later-same f a b (suc n) l = ap₂ (λ y k. y ∷ k) (sym (ap (λ x. f b || x) (apart a b (λ e. omega (arith, e, l))) ∙ or-false (f b))) (later-same f a (b + 1) n (omega (arith, l)))

set-range : (f : ℕ → Bool) (a n k : ℕ) → set (map f (range_with_len a n)) k true ≡ map (λ i. f i || eqb (a + k) i) (range_with_len a n)
set-range f a zero k = refl
set-range f a (suc n) zero =
    ap₂ (λ y l. y ∷ l) (sym (ap (λ x. f a || x) (eq-eqb (a + 0) a (omega arith)) ∙ or-true (f a)))
    (later-same f a (a + 1) n (omega arith) ∙ map-as (λ i. f i || eqb a i) (λ i. f i || eqb (a + 0) i) (range_with_len (a + 1) n) (λ i. ap (λ x. f i || eqb x i) (omega arith)))
set-range f a (suc n) (suc k) =
    ap₂ (λ y l. y ∷ l) (sym (ap (λ x. f a || x) (apart (a + suc k) a (λ e. omega (arith, e))) ∙ or-false (f a)))
    (set-range f (a + 1) n k ∙ map-as (λ i. f i || eqb (a + 1 + k) i) (λ i. f i || eqb (a + suc k) i) (range_with_len (a + 1) n) (λ i. ap (λ x. f i || eqb x i) (omega arith)))

-- one query more
pub slots-push : (test : Holder → Bool) (hs : List Holder) (h : Holder)
    → slots_of test (hs ++ h ∷ []) ≡ cond (test h) (set (slots_of test hs) h.slot true) (slots_of test hs)
unfolding slots_of
slots-push test hs h = go (test h) refl
  where
    more : (b : Bool) → test h ≡ b → (slot : ℕ) → list_any (λ (g : Holder). eqb g.slot slot && test g) (hs ++ h ∷ []) ≡ (list_any (λ (g : Holder). eqb g.slot slot && test g) hs || (eqb h.slot slot && b))
    more b e slot =
        list_any-append (λ (g : Holder). eqb g.slot slot && test g) hs (h ∷ []) ∙ ap (λ x. list_any (λ (g : Holder). eqb g.slot slot && test g) hs || x) (or-false (eqb h.slot slot && test h) ∙ ap (λ x. eqb h.slot slot && x) e)

    and-true : (b : Bool) → (b && true) ≡ b
    and-true true = refl
    and-true false = refl

    and-false : (b : Bool) → (b && false) ≡ false
    and-false true = refl
    and-false false = refl

    go : (b : Bool) → test h ≡ b → map (λ slot. list_any (λ (g : Holder). eqb g.slot slot && test g) (hs ++ h ∷ [])) (range_with_len 0 512)
        ≡ cond b (set (map (λ slot. list_any (λ (g : Holder). eqb g.slot slot && test g) hs) (range_with_len 0 512)) h.slot true) (map (λ slot. list_any (λ (g : Holder). eqb g.slot slot && test g) hs) (range_with_len 0 512))
    go true e =
        map-as (λ slot. list_any (λ (g : Holder). eqb g.slot slot && test g) (hs ++ h ∷ [])) (λ slot. list_any (λ (g : Holder). eqb g.slot slot && test g) hs || eqb (0 + h.slot) slot) (range_with_len 0 512)
        (λ slot. more true e slot ∙ ap (λ x. list_any (λ (g : Holder). eqb g.slot slot && test g) hs || x) (and-true (eqb h.slot slot) ∙ ap (λ n. eqb n slot) (plus-zero h.slot)))
        ∙ sym (set-range (λ slot. list_any (λ (g : Holder). eqb g.slot slot && test g) hs) 0 512 h.slot)
    go false e =
        map-as (λ slot. list_any (λ (g : Holder). eqb g.slot slot && test g) (hs ++ h ∷ [])) (λ slot. list_any (λ (g : Holder). eqb g.slot slot && test g) hs) (range_with_len 0 512)
        (λ slot. more false e slot ∙ ap (λ x. list_any (λ (g : Holder). eqb g.slot slot && test g) hs || x) (and-false (eqb h.slot slot)) ∙ or-false (list_any (λ (g : Holder). eqb g.slot slot && test g) hs))

-- of no query
pub slots-none : (test : Holder → Bool) → slots_of test [] ≡ replicate 512 false
unfolding slots_of
slots-none test = sym (replicate-map false 0 512)

-- one entry more
pub slots-step : (d : Entry) (test : Holder → Bool) (es : List Entry) (i : ℕ) (before after : List Bool) → i < length es
    → after ≡ cond (test (holder_of (get_or es i d))) (set before (get_or es i d).slot true) before → before ≡ slots_of test (holders_in (take i es))
    → after ≡ slots_of test (holders_in (take (i + 1) es))
slots-step d test es i before after l is was =
    is ∙ ap (λ k. cond (test (holder_of (get_or es i d))) (set k (get_or es i d).slot true) k) was
    ∙ sym (slots-push test (holders_in (take i es)) (holder_of (get_or es i d)))
    ∙ ap (slots_of test) (sym (ap holders_in (take_more es i d l) ∙ map-end holder_of (take i es) (get_or es i d)))
