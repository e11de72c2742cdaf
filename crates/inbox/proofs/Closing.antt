-- Joined passes hold each role once, and what they have done adds up.
use Rattle.std.proofs.Common.{◌≡◌, ℕ, zero, suc, ◌<◌, ◌≤◌, ◌+◌, Bool, true, false, true≢false, cond, eqb, ◌&&◌, List, [], ◌∷◌, ◌++◌, length, take, map, Option, Some, None, refl, sym, ap, ◌∙◌, subst, ⊎_elim, arith, length-append}
use Rattle.std.specs.Prelude.{is_some}
use Rattle.std.proofs.lemmas.Bool.{cond-true, cond-false, cases_Bool, or_parts}
use Rattle.std.proofs.lemmas.List.{length-map}
use Rattle.std.proofs.Math.Seq.{take-append_seam}
use Rattle.crossbeam_queue.specs.Fifo.{Held}
use Rattle.inbox.specs.Roles.{loads, from, AllFed, listed, part, list_of, HoldsRole, only, IsOnly, roles_in, clash, either_of, united, both_of, KeepsRoles, Moment, IsTally}
use Rattle.inbox.proofs.Moves.{seat_of}
use Rattle.inbox.proofs.Passing.{part_united}

module _ {X : Type 0} where
  roles-united : (v w : List (Option (List (ℕ × X)))) → clash v w ≡ false → roles_in (united v w) ≡ roles_in v + roles_in w
  roles-united [] w e = omega arith
  roles-united (a ∷ v) [] e = omega arith
  roles-united (None ∷ v) (None ∷ w) e = let rest = roles-united v w e in omega (arith, rest)
  roles-united (None ∷ v) (Some y ∷ w) e = let rest = roles-united v w e in omega (arith, rest)
  roles-united (Some x ∷ v) (None ∷ w) e = let rest = roles-united v w e in omega (arith, rest)
  roles-united (Some x ∷ v) (Some y ∷ w) e = absurd (true≢false e)

  gained : (v w : List (Option (List (ℕ × X)))) (r : ℕ) (l : List (ℕ × X)) → clash v w ≡ false → part w r ≡ Some l → part (united v w) r ≡ Some l
  gained [] w r l e h = h
  gained (a ∷ v) [] r l e h = absurd (cc)
  gained (None ∷ v) (b ∷ w) zero l e h = h
  gained (Some x ∷ v) (b ∷ w) zero l e h = absurd (true≢false (sym (ap is_some h) ∙ (or_parts (is_some b) (clash v w) e).0))
  gained (a ∷ v) (b ∷ w) (suc r) l e h = gained v w r l (or_parts (is_some a && is_some b) (clash v w) e).1 h

  roles-only : (r : ℕ) (l : List (ℕ × X)) → r < 6 → roles_in (only r (Some l)) ≡ 1
  roles-only zero l h = refl
  roles-only (suc zero) l h = refl
  roles-only (suc (suc zero)) l h = refl
  roles-only (suc (suc (suc zero))) l h = refl
  roles-only (suc (suc (suc (suc zero)))) l h = refl
  roles-only (suc (suc (suc (suc (suc zero))))) l h = refl
  roles-only (suc (suc (suc (suc (suc (suc r)))))) l h = absurd (omega arith)

  pub roles_alone : (role : ℕ) (v : List (Option (List (ℕ × X)))) → role < 6 → IsOnly role v → roles_in v ≡ 1
  roles_alone role v small is = ap roles_in (is.0 ∙ ap (only role) is.1) ∙ roles-only role (list_of v role) small

  -- a view that a moment has is of six places, so its parts did not clash
  pub free_of : (Sound : X → Type 0) (sees : List (ℕ × X) → List (ℕ × X) → Type 0) (v w : List (Option (List (ℕ × X)))) (items : List (ℕ × X)) → Moment Sound sees (both_of v w) items → clash v w ≡ false
  free_of Sound sees v w items m = ⊎_elim
      (λ (e : clash v w ≡ true). let long = sym (ap length (cond-true (clash v w) [] (united v w) e)) ∙ m.2.2.2 m.0 (both_of v w) m.3 in absurd (omega (arith, long)))
      (λ (e : clash v w ≡ false). e)
      (cases_Bool (clash v w))

  pub keeps : (v w : List (Option (List (ℕ × X)))) → clash v w ≡ false → KeepsRoles v (both_of v w)
  keeps v w free r l e = ap (λ u. part u r) (cond-false (clash v w) [] (united v w) free) ∙ part_united v w r ∙ ap (λ o. either_of o (part w r)) e

  pub gains : (v w : List (Option (List (ℕ × X)))) (r : ℕ) (l : List (ℕ × X)) → clash v w ≡ false → part w r ≡ Some l → part (both_of v w) r ≡ Some l
  gains v w r l free e = ap (λ u. part u r) (cond-false (clash v w) [] (united v w) free) ∙ gained v w r l free e

  pub counts : (v w : List (Option (List (ℕ × X)))) → clash v w ≡ false → roles_in (both_of v w) ≡ roles_in v + roles_in w
  counts v w free = ap roles_in (cond-false (clash v w) [] (united v w) free) ∙ roles-united v w free

  roles_below : (v : List (Option (List (ℕ × X)))) → roles_in v ≤ length v
  roles_below [] = omega arith
  roles_below (None ∷ v) = let rest = roles_below v in omega (arith, rest)
  roles_below (Some x ∷ v) = let rest = roles_below v in omega (arith, rest)

  -- a view that holds as many roles as it has places holds each
  holds_each : (v : List (Option (List (ℕ × X)))) (r : ℕ) → roles_in v ≡ length v → r < length v → HoldsRole v r
  holds_each [] r full h = absurd (omega arith)
  holds_each (None ∷ v) r full h = let most = roles_below v in absurd (omega (arith, most, full))
  holds_each (Some x ∷ v) zero full h = refl
  holds_each (Some x ∷ v) (suc r) full h = holds_each v r (omega (arith, full)) (omega (arith, h))

  from-joined : (feeder : ℕ) (ps qs : List (ℕ × X)) → from feeder (ps ++ qs) ≡ from feeder ps ++ from feeder qs
  from-joined feeder [] qs = refl
  from-joined feeder (p ∷ ps) qs = by (eqb p.0 feeder) (from feeder (ps ++ qs)) (from-joined feeder ps qs)
    where
      by : (b : Bool) (l : List X) → l ≡ from feeder ps ++ from feeder qs → cond b (p.1 ∷ l) l ≡ cond b (p.1 ∷ from feeder ps) (from feeder ps) ++ from feeder qs
      by true l e = ap (λ l. p.1 ∷ l) e
      by false l e = e

  abbrev sizes : List (ℕ × X) → ℕ
  sizes ps = length (from 1 ps) + length (from 2 ps) + length (from 3 ps) + length (from 4 ps) + length (from 5 ps)

  one_more : (n : ℕ) (x : X) (ps : List (ℕ × X)) → 0 < n → n < 6 → sizes ps ≡ length ps → sizes ((n, x) ∷ ps) ≡ suc (length ps)
  one_more zero x ps low high e = absurd (omega arith)
  one_more (suc zero) x ps low high e = omega (arith, e)
  one_more (suc (suc zero)) x ps low high e = omega (arith, e)
  one_more (suc (suc (suc zero))) x ps low high e = omega (arith, e)
  one_more (suc (suc (suc (suc zero)))) x ps low high e = omega (arith, e)
  one_more (suc (suc (suc (suc (suc zero))))) x ps low high e = omega (arith, e)
  one_more (suc (suc (suc (suc (suc (suc n)))))) x ps low high e = absurd (omega arith)

  -- parcels of the five feeders are as many as those of each together
  pub all_sizes : (Sound : X → Type 0) (ps : List (ℕ × X)) → AllFed Sound ps → sizes ps ≡ length ps
  all_sizes Sound [] fed = refl
  all_sizes Sound (p ∷ ps) fed = one_more p.0 p.1 ps fed.0 fed.1 (all_sizes Sound ps fed.3)

  fed_front : (Sound : X → Type 0) (ps qs : List (ℕ × X)) → AllFed Sound (ps ++ qs) → AllFed Sound ps
  fed_front Sound [] qs fed = tt
  fed_front Sound (p ∷ ps) qs fed = (fed.0, fed.1, fed.2, fed_front Sound ps qs fed.3)

  -- each load that was taken carries the number of a feeder, and is sound
  pub taken_fed : (Sound : X → Type 0) (sees : List (ℕ × X) → List (ℕ × X) → Type 0) (left : ℕ) (v : List (Option (List (ℕ × X)))) → roles_in v ≡ 6 → Held left (Moment Sound sees v) → AllFed Sound (list_of v 0)
  taken_fed Sound sees left v full held =
      let items = held.0 in let moment = held.2 in let kept = moment.2 in let lists = kept.1 in let whole = kept.3 in
      let long : length v ≡ 6 = kept.2.2 moment.0 v moment.3 in
      let mine : lists 0 ≡ list_of v 0 = (seat_of kept.0 lists moment.1 moment.0 v 0 (omega arith) kept.2 moment.3 (holds_each v 0 (full ∙ sym long) (omega (arith, long)))).1 in
      fed_front Sound (list_of v 0) items (subst (λ l. AllFed Sound (l ++ items)) mine whole.1)

  pub tallies : (Sound : X → Type 0) (sees : List (ℕ × X) → List (ℕ × X) → Type 0) (left : ℕ) (v : List (Option (List (ℕ × X)))) → roles_in v ≡ 6 → Held left (Moment Sound sees v) → IsTally left v
  tallies Sound sees left v full held =
      let items = held.0 in let moment = held.2 in let kept = moment.2 in let lists = kept.1 in let whole = kept.3 in
      let long : length v ≡ 6 = kept.2.2 moment.0 v moment.3 in
      let mine : (r : ℕ) → r < 6 → lists r ≡ list_of v r = λ r h. (seat_of kept.0 lists moment.1 moment.0 v r h kept.2 moment.3 (holds_each v r (full ∙ sym long) (omega (arith, h, long)))).1 in
      let done : (feeder : ℕ) → 0 < feeder → feeder < 6 → loads (list_of v feeder) ≡ from feeder (list_of v 0 ++ items) =
      λ feeder low high. ap loads (sym (mine feeder high)) ∙ whole.0 feeder low high ∙ ap (λ l. from feeder (l ++ items)) (mine 0 (omega arith)) in
      let size : (feeder : ℕ) → 0 < feeder → feeder < 6 → length (list_of v feeder) ≡ length (from feeder (list_of v 0 ++ items)) =
      λ feeder low high. sym (length-map (list_of v feeder) (λ p. p.1)) ∙ ap length (done feeder low high) in
      let all = all_sizes Sound (list_of v 0 ++ items) (subst (λ l. AllFed Sound (l ++ items)) (mine 0 (omega arith)) whole.1) ∙ length-append (list_of v 0) items in
      let first = size 1 (omega arith) (omega arith) in let second = size 2 (omega arith) (omega arith) in let third = size 3 (omega arith) (omega arith) in
      let fourth = size 4 (omega arith) (omega arith) in let fifth = size 5 (omega arith) (omega arith) in let rest = held.1 in (
        (λ feeder low high. sym (ap (take (length (from feeder (list_of v 0)))) (done feeder low high ∙ from-joined feeder (list_of v 0) items) ∙ take-append_seam (from feeder (list_of v 0)) (from feeder items))),
        omega (arith, all, first, second, third, fourth, fifth, rest),
      )

  -- what a join tells, once the rule was looked at
  pub brought : (Sound : X → Type 0) (sees : List (ℕ × X) → List (ℕ × X) → Type 0) (v w u new : List (Option (List (ℕ × X)))) → u ≡ both_of v w → new ≡ u → (items : List (ℕ × X)) × Moment Sound sees u items → (clash v w ≡ false) × (new ≡ both_of v w)
  brought Sound sees v w u new both same seen = (free_of Sound sees v w seen.0 (subst (λ x. Moment Sound sees x seen.0) both seen.1), same ∙ both)

  -- what the parts of a view were before another list of them is the same
  pub loads_kept : (v : List (Option (List (ℕ × X)))) (r : ℕ) (l : List (ℕ × X)) → part v r ≡ Some l → loads l ≡ loads (list_of v r)
  loads_kept v r l e = ap (λ o. loads (listed o)) (sym e)

pub five_same : {A B : Type 0} (f g : A → B) (xs : List A) (a b c d e : A) → xs ≡ a ∷ b ∷ c ∷ d ∷ e ∷ [] → f a ≡ g a → f b ≡ g b → f c ≡ g c → f d ≡ g d → f e ≡ g e → map f xs ≡ map g xs
five_same f g xs a b c d e is p q r s t = ap (map f) is ∙ (λ i. p i ∷ q i ∷ r i ∷ s i ∷ t i ∷ []) ∙ ap (map g) (sym is)
