-- Which slices go at an advance.
use Rattle.std.proofs.Common.{◌≡◌, inl, inr, ℕ, zero, suc, ◌-◌, ◌≤◌, ◌<◌, not, eqb, Bool, cond, true, false, Option, Some, None, List, [], ◌∷◌, ◌++◌, take, drop, length, refl, sym, ap, subst, ◌∙◌, arith}
use Rattle.std.specs.Prelude.{slice_index_or, if◌then◌else◌}
use Rattle.std.proofs.lemmas.Bool.{eqb-true, cases_Bool}
use Rattle.std.specs.List.{filter, remove, AllByRecursion}
use Rattle.by_start.specs.declared.Begun.{Begun}
use Rattle.by_start.specs.Order.{begun, look, StartsRise, start_at, thing_at, without}
use Rattle.slice_store.specs.declared.placements.Held.{Held}
use Rattle.slice_store.specs.Slices.{Store, store, placed_in}
use Rattle.as_base.specs.declared.stream.StreamId.{StreamId}
use Rattle.views.specs.Slots.{Holder}
use Rattle.contents.specs.Past.{mark_of}
use Rattle.part_state.specs.Waiting.{stays}

-- ---- the list of slices, from the last to the first

-- what a call says that lets a slice go, or leaves all
pub evicted : (s : StreamId) (xs : List (Begun Held)) (i : ℕ) (new : Store) (go : Bool) → new ≡ cond go (store s (without i xs)) (store s xs)
    → new ≡ store s (cond (not go) xs (without i xs))
evicted s xs i new true e = e
evicted s xs i new false e = e

pub start-there : (xs : List (Begun Held)) (i : ℕ) (d : Begun Held) → i < length xs → start_at i xs ≡ (slice_index_or xs i d).start
start-there [] i d l = absurd (omega (arith, l))
start-there (x ∷ xs) zero d l = refl
start-there (x ∷ xs) (suc i) d l = start-there xs i d (omega (arith, l))

pub placed-there : (xs : List (Begun Held)) (i : ℕ) (d : Begun Held) → i < length xs → placed_in (thing_at i xs) ≡ (slice_index_or xs i d).thing.placed
placed-there [] i d l = absurd (omega (arith, l))
placed-there (x ∷ xs) zero d l = refl
placed-there (x ∷ xs) (suc i) d l = placed-there xs i d (omega (arith, l))

module _ {X : Type 0} (keep : X → Bool) where
  -- those from a place on are looked at
  abbrev pub swept : ℕ → List X → List X
  swept left xs = take left xs ++ filter keep (drop left xs)

  pub swept-none : (xs : List X) → swept (length xs) xs ≡ xs
  swept-none [] = refl
  swept-none (x ∷ xs) = ap (λ l. x ∷ l) (swept-none xs)

  -- the next is as it was
  pub swept-there : (xs : List X) (k : ℕ) (d : X) → k < length xs → slice_index_or (swept (suc k) xs) k d ≡ slice_index_or xs k d
  swept-there [] k d l = absurd (omega (arith, l))
  swept-there (x ∷ xs) zero d l = refl
  swept-there (x ∷ xs) (suc k) d l = swept-there xs k d (omega (arith, l))

  pub swept-long : (xs : List X) (k : ℕ) → k < length xs → k < length (swept (suc k) xs)
  swept-long [] k l = absurd (omega (arith, l))
  swept-long (x ∷ xs) zero l = omega arith
  swept-long (x ∷ xs) (suc k) l = let r = swept-long xs k (omega (arith, l)) in omega (arith, r)

  -- and stays or goes
  pub swept-step : (xs : List X) (k : ℕ) (d : X) → k < length xs
      → cond (keep (slice_index_or xs k d)) (swept (suc k) xs) (remove (swept (suc k) xs) k) ≡ swept k xs
  swept-step [] k d l = absurd (omega (arith, l))
  swept-step (x ∷ xs) zero d l = go (keep x) refl
    where
      go : (b : Bool) → keep x ≡ b → cond b (x ∷ filter keep xs) (filter keep xs) ≡ cond (keep x) (x ∷ filter keep xs) (filter keep xs)
      go b e = ap (λ c. cond c (x ∷ filter keep xs) (filter keep xs)) (sym e)
  swept-step (x ∷ xs) (suc k) d l = front (keep (slice_index_or xs k d)) (swept (suc k) xs) k ∙ ap (λ l. x ∷ l) (swept-step xs k d (omega (arith, l)))
    where
      front : (b : Bool) (ys : List X) (k : ℕ) → cond b (x ∷ ys) (remove (x ∷ ys) (suc k)) ≡ x ∷ cond b ys (remove ys k)
      front true ys k = refl
      front false ys k = refl

-- one step of a sweep from the last slice to the first
pub evict-step : (es : List Holder) (marks : List ℕ) (s : StreamId) (xs : List (Begun Held)) (left : ℕ) (cur new : Store) → 0 < left → left ≤ length xs
    → cur ≡ store s (swept (stays es marks (mark_of marks s)) left xs)
    → ((d : Begun Held) → new ≡ store cur.stream (cond (stays es marks (mark_of marks cur.stream) (slice_index_or cur.slices (left - 1) d)) cur.slices (without (left - 1) cur.slices)))
    → new ≡ store s (swept (stays es marks (mark_of marks s)) (left - 1) xs)
evict-step es marks s [] left cur new some l is f = absurd (omega (arith, some, l))
evict-step es marks s (x ∷ rest) left cur new some l is f =
    let keep : Begun Held → Bool = stays es marks (mark_of marks s) in
    let xs : List (Begun Held) = x ∷ rest in
    let k : ℕ = left - 1 in
    let next : left ≡ suc k = omega (arith, some) in
    let there : k < length xs = omega (arith, some, l) in
    subst (λ (c : Store). (d : Begun Held) → new ≡ store c.stream (cond (stays es marks (mark_of marks c.stream) (slice_index_or c.slices k d)) c.slices (without k c.slices))) is f x
    ∙ ap (λ n. store s (cond (keep (slice_index_or (swept keep n xs) k x)) (swept keep n xs) (remove (swept keep n xs) k))) next
    ∙ ap (λ b. store s (cond (keep b) (swept keep (suc k) xs) (remove (swept keep (suc k) xs) k))) (swept-there keep xs k x there)
    ∙ ap (store s) (swept-step keep xs k x there)

-- at the start nothing was swept, and at the end all was
pub sweep-first : (es : List Holder) (marks : List ℕ) (m : ℕ) (old : Store) (left : ℕ) → left ≡ length old.slices → old ≡ store old.stream (swept (stays es marks m) left old.slices)
sweep-first es marks m old left e = ap (store old.stream) (sym (ap (λ n. swept (stays es marks m) n old.slices) e ∙ swept-none (stays es marks m) old.slices))

-- ---- look-ups

-- the thing that begins there, if it is one of those that are kept
abbrev pub kept_look : {X : Type 0} → (Begun X → Bool) → ℕ → Option X → Option X
kept_look keep c None = None
kept_look keep c (Some x) = if keep (begun c x) then Some x else None

module _ {X : Type 0} (keep : Begun X → Bool) where
  look-none : (c : ℕ) (xs : List (Begun X)) → AllByRecursion (λ (b : Begun X). c < b.start) xs → look c (filter keep xs) ≡ None
  look-none c [] a = refl
  look-none c (b ∷ xs) a = go (keep b) (look-none c xs a.1)
    where
      differ : (m n : ℕ) → m < n → eqb m n ≡ false
      differ m n l = elim (cases_Bool (eqb m n)) [
        | inl e ↦ absurd (let s = eqb-true m n e in omega (arith, s, l))
        | inr e ↦ e
      ]

      go : (k : Bool) → look c (filter keep xs) ≡ None → look c (cond k (b ∷ filter keep xs) (filter keep xs)) ≡ None
      go true r = ap (λ f. cond f (Some b.thing) (look c (filter keep xs))) (differ c b.start a.0) ∙ r
      go false r = r

  -- of the things that are kept, what begins there is what did before, if that is kept
  pub look-kept : (c : ℕ) (xs : List (Begun X)) → StartsRise xs → look c (filter keep xs) ≡ kept_look keep c (look c xs)
  look-kept c [] rise = refl
  look-kept c (b ∷ xs) rise = go (eqb c b.start) refl (keep b) refl (look-kept c xs rise.1)
    where
      go : (e : Bool) → eqb c b.start ≡ e → (k : Bool) → keep b ≡ k → look c (filter keep xs) ≡ kept_look keep c (look c xs)
          → look c (cond k (b ∷ filter keep xs) (filter keep xs)) ≡ kept_look keep c (cond e (Some b.thing) (look c xs))
      go false e true k r = ap (λ f. cond f (Some b.thing) (look c (filter keep xs))) e ∙ r
      go false e false k r = r
      go true e true k r = ap (λ f. cond f (Some b.thing) (look c (filter keep xs))) e ∙ sym (ap (λ f. cond f (Some b.thing) None) (ap (λ n. keep (begun n b.thing)) (eqb-true c b.start e) ∙ k))
      go true e false k r = ap (λ n. look n (filter keep xs)) (eqb-true c b.start e) ∙ look-none b.start xs rise.0
          ∙ sym (ap (λ f. cond f (Some b.thing) None) (ap (λ n. keep (begun n b.thing)) (eqb-true c b.start e) ∙ k))
