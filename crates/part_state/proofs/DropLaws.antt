-- Which cells go at an advance.
use Rattle.std.proofs.Common.{◌≡◌, inl, inr, ℕ, ◌+◌, ◌≤◌, ◌<◌, ◌&&◌, nat_lt, eqb, Bool, cond, true, false, List, [], refl, sym, ap, ap₂, ◌∙◌, arith}
use Rattle.std.proofs.lemmas.Bool.{lt-ltb, le-ltb, eqb-true, eq-eqb, cases_lt, cases_Bool}
use Rattle.as_base.specs.declared.fragment.Cell.{Cell}
use Rattle.as_base.specs.declared.stream.StreamId.{StreamId}
use Rattle.as_base.specs.Stream.{place_of}
use Rattle.shared_agg.specs.declared.aggs.Aggs.{Aggs}
use Rattle.shared_agg.specs.Aggs.{cells_in, is_slice}
use Rattle.shared_agg.specs.Fill.{has}
use Rattle.views.specs.Slots.{Holder}
use Rattle.part_state.specs.declared.waiting.Wait.TheVariants.{Passed}
use Rattle.part_state.specs.Dropped.{Thinned, are_dropped}
use Rattle.part_state.specs.Waiting.{waiting}

pub thinned-none : (a : Aggs) → Thinned a a
thinned-none a = record { epochs = λ s c e f. f; records = λ s. refl; duties = λ cs h. h }

pub thinned-then : (a b c : Aggs) → Thinned a b → Thinned b c → Thinned a c
thinned-then a b c f g = record {
  epochs = λ s t e h. f.epochs s t e (g.epochs s t e h);
  records = λ s. g.records s ∙ f.records s;
  duties = λ cs h. g.duties cs (f.duties cs h);
}

-- of a stream's slices that begin before a time the cells are dropped whose windows are passed
abbrev pub AreDroppedBefore : StreamId → ℕ → List ℕ → List Holder → Aggs → Aggs → Type 0
AreDroppedBefore s time marks es old now = (t : StreamId) (c slot : ℕ) → slot < 512 → cells_in now t c slot ≡ cond (are_dropped s time marks es t c slot) [] (cells_in old t c slot)

-- a slice without cells may be dropped
none-left : (b : Bool) (x : List Cell) → x ≡ [] → cond b [] x ≡ []
none-left true x e = refl
none-left false x e = e

apart : (a b : ℕ) → (a ≡ b → ⊥) → eqb a b ≡ false
apart a b f = elim (cases_Bool (eqb a b)) [
  | inl e ↦ absurd (f (eqb-true a b e))
  | inr e ↦ e
]

module _ (s : StreamId) (marks : List ℕ) (es : List Holder) (old cur new : Aggs) (next start : ℕ) (from : next ≤ start)
    (was : AreDroppedBefore s next marks es old cur) (none : (t : StreamId) (c slot : ℕ) → eqb (place_of t) (place_of s) ≡ true → next ≤ c → c < start → cells_in cur t c slot ≡ [])
    (drop : (t : StreamId) (c slot : ℕ) → slot < 512 → cells_in new t c slot ≡ cond (is_slice s start t c && has (waiting Passed marks start es) slot) [] (cells_in cur t c slot)) where
  other : (t : StreamId) (c slot : ℕ) → slot < 512 → eqb (place_of t) (place_of s) ≡ false → cells_in new t c slot ≡ cond (are_dropped s (start + 1) marks es t c slot) [] (cells_in old t c slot)
  other t c slot l e =
      drop t c slot l
      ∙ ap (λ b. cond ((b && eqb c start) && has (waiting Passed marks start es) slot) [] (cells_in cur t c slot)) e
      ∙ was t c slot l
      ∙ ap (λ b. cond (b && (nat_lt c next && has (waiting Passed marks c es) slot)) [] (cells_in old t c slot)) e
      ∙ sym (ap (λ b. cond (b && (nat_lt c (start + 1) && has (waiting Passed marks c es) slot)) [] (cells_in old t c slot)) e)

  -- the slice is not the one that is dropped now
  left : (t : StreamId) (c slot : ℕ) → slot < 512 → eqb c start ≡ false → cells_in new t c slot ≡ cells_in cur t c slot
  left t c slot l e =
      drop t c slot l ∙ ap (λ b. cond ((eqb (place_of t) (place_of s) && b) && has (waiting Passed marks start es) slot) [] (cells_in cur t c slot)) e
      ∙ shut (eqb (place_of t) (place_of s)) (has (waiting Passed marks start es) slot)
    where
      shut : (a b : Bool) → cond ((a && false) && b) [] (cells_in cur t c slot) ≡ cells_in cur t c slot
      shut true b = refl
      shut false b = refl

  -- before the next time it is as it was dropped; after it, as it was
  was-before : (t : StreamId) (c slot : ℕ) → slot < 512 → c < next → cells_in cur t c slot ≡ cond (eqb (place_of t) (place_of s) && has (waiting Passed marks c es) slot) [] (cells_in old t c slot)
  was-before t c slot l b = was t c slot l ∙ ap (λ k. cond (eqb (place_of t) (place_of s) && (k && has (waiting Passed marks c es) slot)) [] (cells_in old t c slot)) (lt-ltb c next b)

  was-after : (t : StreamId) (c slot : ℕ) → slot < 512 → next ≤ c → cells_in cur t c slot ≡ cells_in old t c slot
  was-after t c slot l b =
      was t c slot l ∙ ap (λ k. cond (eqb (place_of t) (place_of s) && (k && has (waiting Passed marks c es) slot)) [] (cells_in old t c slot)) (le-ltb c next b)
      ∙ shut (eqb (place_of t) (place_of s))
    where
      shut : (a : Bool) → cond (a && false) [] (cells_in old t c slot) ≡ cells_in old t c slot
      shut true = refl
      shut false = refl

  own : (t : StreamId) (c slot : ℕ) → slot < 512 → eqb (place_of t) (place_of s) ≡ true → cells_in new t c slot ≡ cond (are_dropped s (start + 1) marks es t c slot) [] (cells_in old t c slot)
  own t c slot l e = elim (cases_lt c start) [
    | inl early ↦ elim (cases_lt c next) [
      | inl b ↦ left t c slot l (apart c start (λ is. omega (arith, is, early))) ∙ was-before t c slot l b
          ∙ ap (λ k. cond (eqb (place_of t) (place_of s) && (k && has (waiting Passed marks c es) slot)) [] (cells_in old t c slot)) (sym (lt-ltb c (start + 1) (omega (arith, early))))
      | inr b ↦ left t c slot l (apart c start (λ is. omega (arith, is, early))) ∙ none t c slot e b early
          ∙ sym (none-left (are_dropped s (start + 1) marks es t c slot) (cells_in old t c slot) (sym (was-after t c slot l b) ∙ none t c slot e b early))
    ]
    | inr late ↦ elim (cases_lt start c) [
      | inl b ↦ left t c slot l (apart c start (λ is. omega (arith, is, b))) ∙ was-after t c slot l (omega (arith, from, late))
          ∙ sym (ap (λ k. cond (eqb (place_of t) (place_of s) && (k && has (waiting Passed marks c es) slot)) [] (cells_in old t c slot)) (le-ltb c (start + 1) (omega (arith, b))) ∙ shut (eqb (place_of t) (place_of s)))
      | inr b ↦ here (omega (arith, late, b))
    ]
  ]
    where
      shut : (a : Bool) → cond (a && false) [] (cells_in old t c slot) ≡ cells_in old t c slot
      shut true = refl
      shut false = refl

      here : c ≡ start → cells_in new t c slot ≡ cond (are_dropped s (start + 1) marks es t c slot) [] (cells_in old t c slot)
      here is =
          drop t c slot l
          ∙ ap₂ (λ a b. cond ((a && b) && has (waiting Passed marks start es) slot) [] (cells_in cur t c slot)) e (eq-eqb c start is)
          ∙ ap₂ (λ n x. cond (has (waiting Passed marks n es) slot) [] x) (sym is) (was-after t c slot l (omega (arith, from, is)))
          ∙ sym (ap₂ (λ a b. cond (a && (b && has (waiting Passed marks c es) slot)) [] (cells_in old t c slot)) e (lt-ltb c (start + 1) (omega (arith, is))))

  pub drop-step : AreDroppedBefore s (start + 1) marks es old new
  drop-step t c slot l = elim (cases_Bool (eqb (place_of t) (place_of s))) [
    | inl e ↦ own t c slot l e
    | inr e ↦ other t c slot l e
  ]

-- where no slice begins between, it is the same before both times
pub drop-rest : (s : StreamId) (marks : List ℕ) (es : List Holder) (old cur : Aggs) (next time : ℕ) → next ≤ time → AreDroppedBefore s next marks es old cur
    → ((t : StreamId) (c slot : ℕ) → eqb (place_of t) (place_of s) ≡ true → next ≤ c → c < time → cells_in cur t c slot ≡ []) → AreDroppedBefore s time marks es old cur
drop-rest s marks es old cur next time le was none t c slot l = elim (cases_Bool (eqb (place_of t) (place_of s))) [
  | inr e ↦ was t c slot l ∙ ap (λ b. cond (b && (nat_lt c next && has (waiting Passed marks c es) slot)) [] (cells_in old t c slot)) e
      ∙ sym (ap (λ b. cond (b && (nat_lt c time && has (waiting Passed marks c es) slot)) [] (cells_in old t c slot)) e)
  | inl e ↦ elim (cases_lt c next) [
    | inl b ↦ was t c slot l ∙ ap₂ (λ x y. cond (x && (y && has (waiting Passed marks c es) slot)) [] (cells_in old t c slot)) refl (lt-ltb c next b ∙ sym (lt-ltb c time (omega (arith, b, le))))
    | inr b ↦ elim (cases_lt c time) [
      | inl k ↦ none t c slot e b k ∙ sym (none-left (are_dropped s time marks es t c slot) (cells_in old t c slot) (back b ∙ none t c slot e b k))
      | inr k ↦ was t c slot l ∙ ap (λ y. cond (eqb (place_of t) (place_of s) && (y && has (waiting Passed marks c es) slot)) [] (cells_in old t c slot)) (le-ltb c next b ∙ sym (le-ltb c time k))
    ]
  ]
]
  where
    shut : (a : Bool) → cells_in old t c slot ≡ cond (a && false) [] (cells_in old t c slot)
    shut true = refl
    shut false = refl

    back : next ≤ c → cells_in old t c slot ≡ cells_in cur t c slot
    back b =
        shut (eqb (place_of t) (place_of s))
        ∙ sym (was t c slot l ∙ ap (λ k. cond (eqb (place_of t) (place_of s) && (k && has (waiting Passed marks c es) slot)) [] (cells_in old t c slot)) (le-ltb c next b))
