-- A role that goes to a pass of its own, and passes that are joined, keep the rule.
use Rattle.std.proofs.Common.{◌≡◌, ◌≢◌, ◌⊎◌, ℕ, zero, suc, ◌<◌, ◌+◌, true, false, cond, eqb, ◌&&◌, List, [], ◌∷◌, ◌++◌, length, set, Option, Some, None, refl, sym, ap, ◌∙◌, subst, ⊎_elim, inl, inr, arith, length-append}
use Rattle.std.specs.Prelude.{is_some}
use Rattle.std.proofs.lemmas.Bool.{cond-true, cond-false, or_from, and_left, and_right}
use Rattle.std.proofs.lemmas.Bool.Decides.{eqb_tells}
use Rattle.std.proofs.lemmas.List.{length-set}
use mathlib.Core.Option.{some, some-ne-none, some-injective}
use lib.ListN.{get_elem?}
use Rattle.crossbeam_queue.specs.Fifo.{Forks, Merges}
use Rattle.crossbeam_queue.proofs.Lists.{at_set}
use Rattle.inbox.specs.Roles.{part, HoldsRole, everything, nothing, only, without, clash, either_of, united, both_of, Kept}
use Rattle.inbox.proofs.Moves.{seat_of, part_set}

module _ {A : Type 0} where
  -- an element of a list with one more is one of the list, or the last
  last_or : (l : List A) (a b : A) (j : ℕ) → get_elem? (l ++ a ∷ []) j ≡ some b → ((j < length l) × (get_elem? l j ≡ some b)) ⊎ ((j ≡ length l) × (a ≡ b))
  last_or [] a b zero e = inr (refl, some-injective a b e)
  last_or [] a b (suc j) e = absurd (some-ne-none b (sym e))
  last_or (x ∷ xs) a b zero e = inl (omega arith, e)
  last_or (x ∷ xs) a b (suc j) e = ⊎_elim (λ t. let small = t.0 in inl (omega arith, t.1)) (λ t. inr (ap suc t.0, t.1)) (last_or xs a b j e)

  below : (l : List A) (j : ℕ) (a : A) → get_elem? l j ≡ some a → j < length l
  below [] j a e = absurd (some-ne-none a (sym e))
  below (x ∷ xs) zero a e = omega arith
  below (x ∷ xs) (suc j) a e = let small = below xs j a e in omega arith

  told : (o : Option A) (x : A) (a b : ℕ) → (a ≡ b → o ≡ Some x) → (a ≢ b → o ≡ None) → o ≡ cond (eqb a b) (Some x) None
  told o x a b at off = ⊎_elim
      (λ (e : (eqb a b ≡ true) × (a ≡ b)). at e.1 ∙ sym (cond-true (eqb a b) (Some x) None e.0))
      (λ (e : (eqb a b ≡ false) × (a ≢ b)). off e.1 ∙ sym (cond-false (eqb a b) (Some x) None e.0))
      (eqb_tells a b)

  here_is : (o : Option A) (x : A) (a b : ℕ) → o ≡ cond (eqb a b) (Some x) None → a ≡ b → o ≡ Some x
  here_is o x a b e same = ⊎_elim
      (λ (t : (eqb a b ≡ true) × (a ≡ b)). e ∙ cond-true (eqb a b) (Some x) None t.0)
      (λ (t : (eqb a b ≡ false) × (a ≢ b)). absurd (t.1 same))
      (eqb_tells a b)

  not_here : (o : Option A) (x : A) (a b : ℕ) → o ≡ cond (eqb a b) (Some x) None → a ≢ b → o ≡ None
  not_here o x a b e apart = ⊎_elim
      (λ (t : (eqb a b ≡ true) × (a ≡ b)). absurd (apart t.1))
      (λ (t : (eqb a b ≡ false) × (a ≢ b)). e ∙ cond-false (eqb a b) (Some x) None t.0)
      (eqb_tells a b)

module _ {X : Type 0} where
  part_nothing : (r : ℕ) → part (nothing {X = X}) r ≡ None
  part_nothing zero = refl
  part_nothing (suc zero) = refl
  part_nothing (suc (suc zero)) = refl
  part_nothing (suc (suc (suc zero))) = refl
  part_nothing (suc (suc (suc (suc zero)))) = refl
  part_nothing (suc (suc (suc (suc (suc zero))))) = refl
  part_nothing (suc (suc (suc (suc (suc (suc r)))))) = refl

  -- the rule's clause on one view and one role
  abbrev SeatedAt : (ℕ → List (ℕ × X)) → ℕ → List (Option (List (ℕ × X))) → ℕ → ℕ → Type 0
  SeatedAt lists j u r place = part u r ≡ cond (eqb j place) (Some (lists r)) None

  pub begins : (Sound : X → Type 0) (sees : List (ℕ × X) → List (ℕ × X) → Type 0) → sees [] [] → Kept Sound sees [] (everything {X = X} ∷ [])
  begins Sound sees none = ((λ _. 0), (λ _. []), ((λ r h. omega arith), at, long), ((λ feeder a b. refl), tt), none)
    where
      all : (r : ℕ) → r < 6 → part (everything {X = X}) r ≡ Some []
      all zero h = refl
      all (suc zero) h = refl
      all (suc (suc zero)) h = refl
      all (suc (suc (suc zero))) h = refl
      all (suc (suc (suc (suc zero)))) h = refl
      all (suc (suc (suc (suc (suc zero))))) h = refl
      all (suc (suc (suc (suc (suc (suc r)))))) h = absurd (omega arith)

      at : (j : ℕ) (u : List (Option (List (ℕ × X)))) → get_elem? (everything {X = X} ∷ []) j ≡ some u → (r : ℕ) → r < 6 → part u r ≡ cond (eqb j 0) (Some []) None
      at zero u e r h = ap (λ x. part x r) (sym (some-injective (everything {X = X}) u e)) ∙ all r h
      at (suc j) u e r h = absurd (some-ne-none u (sym e))

      long : (j : ℕ) (u : List (Option (List (ℕ × X)))) → get_elem? (everything {X = X} ∷ []) j ≡ some u → length u ≡ 6
      long zero u e = ap length (sym (some-injective (everything {X = X}) u e))
      long (suc j) u e = absurd (some-ne-none u (sym e))

  pub forks : (Sound : X → Type 0) (sees : List (ℕ × X) → List (ℕ × X) → Type 0) (role pass : ℕ) (v : List (Option (List (ℕ × X)))) → role < 6 → HoldsRole v role → Forks (Kept Sound sees) pass v (without v role) (only role (part v role))
  forks Sound sees role pass v small holds items views kept at =
      let seat = kept.0 in let lists = kept.1 in let seated = kept.2 in
      let left = without v role in let right = only role (part v role) in let vs = set views pass left in
      let mine = seat_of seat lists views pass v role small seated at holds in
      let long : length v ≡ 6 = seated.2 pass v at in
      let same : length vs ≡ length views = length-set views pass left in
      let more : length (vs ++ right ∷ []) ≡ length vs + 1 = length-append vs (right ∷ []) in
      let now : ℕ → ℕ = λ r. cond (eqb r role) (length vs) (seat r) in (
        now,
        lists,
        (
          (λ r h. ⊎_elim
              (λ (is : (eqb r role ≡ true) × (r ≡ role)). subst (λ k. k < length (vs ++ right ∷ [])) (sym (cond-true (eqb r role) (length vs) (seat r) is.0)) (omega (arith, more)))
              (λ (is : (eqb r role ≡ false) × (r ≢ role)). subst (λ k. k < length (vs ++ right ∷ [])) (sym (cond-false (eqb r role) (length vs) (seat r) is.0)) (let sits = seated.0 r h in omega (arith, more, same, sits)))
              (eqb_tells r role)),
          (λ j u e r h. ⊎_elim
              (λ (is : (eqb r role ≡ true) × (r ≡ role)). subst (SeatedAt lists j u r) (sym (cond-true (eqb r role) (length vs) (seat r) is.0)) (⊎_elim
              (λ (t : (j < length vs) × (get_elem? vs j ≡ some u)). told (part u r) (lists r) j (length vs)
              (λ clash. let less = t.0 in absurd (omega (arith, less, clash)))
              (λ _. ⊎_elim
              (λ (here : (j ≡ pass) × (left ≡ u)). ap (λ x. part x r) (sym here.1) ∙ part_set v role r None (omega (arith, long, small)) ∙ cond-true (eqb r role) None (part v r) is.0)
              (λ (there : (j ≢ pass) × (get_elem? views j ≡ some u)). not_here (part u r) (lists r) j (seat r) (seated.1 j u there.1 r h) (λ sits. there.0 (sits ∙ ap seat is.1 ∙ sym mine.0)))
              (at_set views pass j left u t.1)))
              (λ (t : (j ≡ length vs) × (right ≡ u)). told (part u r) (lists r) j (length vs)
              (λ _. ap (λ x. part x r) (sym t.1) ∙ part_set nothing role r (part v role) small ∙ cond-true (eqb r role) (part v role) (part nothing r) is.0 ∙ holds ∙ ap Some (sym mine.1 ∙ ap lists (sym is.1)))
              (λ apart. absurd (apart t.0)))
              (last_or vs right u j e)))
              (λ (is : (eqb r role ≡ false) × (r ≢ role)). subst (SeatedAt lists j u r) (sym (cond-false (eqb r role) (length vs) (seat r) is.0)) (⊎_elim
              (λ (t : (j < length vs) × (get_elem? vs j ≡ some u)). ⊎_elim
              (λ (here : (j ≡ pass) × (left ≡ u)). ap (λ x. part x r) (sym here.1) ∙ part_set v role r None (omega (arith, long, small)) ∙ cond-false (eqb r role) None (part v r) is.0
              ∙ seated.1 pass v at r h ∙ ap (λ k. cond (eqb k (seat r)) (Some (lists r)) None) (sym here.0))
              (λ (there : (j ≢ pass) × (get_elem? views j ≡ some u)). seated.1 j u there.1 r h)
              (at_set views pass j left u t.1))
              (λ (t : (j ≡ length vs) × (right ≡ u)). told (part u r) (lists r) j (seat r)
              (λ sits. let low = seated.0 r h in let last = t.0 in absurd (omega (arith, low, last, sits, same)))
              (λ _. ap (λ x. part x r) (sym t.1) ∙ part_set nothing role r (part v role) small ∙ cond-false (eqb r role) (part v role) (part nothing r) is.0 ∙ part_nothing r))
              (last_or vs right u j e)))
              (eqb_tells r role)),
          (λ j u e. ⊎_elim
              (λ (t : (j < length vs) × (get_elem? vs j ≡ some u)). ⊎_elim
              (λ (here : (j ≡ pass) × (left ≡ u)). ap length (sym here.1) ∙ length-set v role None ∙ long)
              (λ (there : (j ≢ pass) × (get_elem? views j ≡ some u)). seated.2 j u there.1)
              (at_set views pass j left u t.1))
              (λ (t : (j ≡ length vs) × (right ≡ u)). ap length (sym t.1) ∙ length-set nothing role (part v role))
              (last_or vs right u j e)),
        ),
        kept.3,
        kept.4,
      )

  -- joining
  apart_of : (v w : List (Option (List (ℕ × X)))) → ((r : ℕ) → r < length v → (part v r ≡ None) ⊎ (part w r ≡ None)) → clash v w ≡ false
  apart_of [] w h = refl
  apart_of (a ∷ v) [] h = refl
  apart_of (a ∷ v) (b ∷ w) h = or_from (is_some a && is_some b) (clash v w)
      (⊎_elim (λ (e : a ≡ None). and_left (is_some a) (is_some b) (ap is_some e)) (λ (e : b ≡ None). and_right (is_some a) (is_some b) (ap is_some e)) (h 0 (omega arith)))
      (apart_of v w (λ r l. h (suc r) (omega arith)))

  either_none : (o : Option (List (ℕ × X))) → o ≡ either_of o None
  either_none None = refl
  either_none (Some l) = refl

  pub part_united : (v w : List (Option (List (ℕ × X)))) (r : ℕ) → part (united v w) r ≡ either_of (part v r) (part w r)
  part_united [] w r = refl
  part_united (a ∷ v) [] r = either_none (part (a ∷ v) r)
  part_united (a ∷ v) (b ∷ w) zero = refl
  part_united (a ∷ v) (b ∷ w) (suc r) = part_united v w r

  length-united : (v w : List (Option (List (ℕ × X)))) → length v ≡ length w → length (united v w) ≡ length v
  length-united [] w e = sym e
  length-united (a ∷ v) [] e = refl
  length-united (a ∷ v) (b ∷ w) e = ap suc (length-united v w (omega arith))

  pub merges : (Sound : X → Type 0) (sees : List (ℕ × X) → List (ℕ × X) → Type 0) (pass : ℕ) (v : List (Option (List (ℕ × X)))) (other : ℕ) (w : List (Option (List (ℕ × X)))) → Merges (Kept Sound sees) pass v other w (both_of v w) nothing
  merges Sound sees pass v other w items views kept at two at' =
      let seat = kept.0 in let lists = kept.1 in let seated = kept.2 in let both = both_of v w in let vs = set views pass both in
      let was : get_elem? views other ≡ some w = ⊎_elim (λ (t : (other ≡ pass) × (both ≡ w)). absurd (two t.0)) (λ (t : (other ≢ pass) × (get_elem? views other ≡ some w)). t.1) (at_set views pass other both w at') in
      let long : length v ≡ 6 = seated.2 pass v at in let long' : length w ≡ 6 = seated.2 other w was in
      let free : clash v w ≡ false = apart_of v w (λ r l. ⊎_elim
      (λ (t : (eqb pass (seat r) ≡ true) × (pass ≡ seat r)). inr (not_here (part w r) (lists r) other (seat r) (seated.1 other w was r (omega (arith, long, l))) (λ sits. two (sits ∙ sym t.1))))
      (λ (t : (eqb pass (seat r) ≡ false) × (pass ≢ seat r)). inl (not_here (part v r) (lists r) pass (seat r) (seated.1 pass v at r (omega (arith, long, l))) t.1))
      (eqb_tells pass (seat r))) in
      let is_both : both ≡ united v w = cond-false (clash v w) [] (united v w) free in
      let now : ℕ → ℕ = λ r. cond (eqb (seat r) other) pass (seat r) in
      let size : length (set vs other nothing) ≡ length views = length-set vs other nothing ∙ length-set views pass both in
      let mine = below views pass v at in (
        now,
        lists,
        (
          (λ r h. ⊎_elim
              (λ (is : (eqb (seat r) other ≡ true) × (seat r ≡ other)). subst (λ k. k < length (set vs other nothing)) (sym (cond-true (eqb (seat r) other) pass (seat r) is.0)) (omega (arith, size, mine)))
              (λ (is : (eqb (seat r) other ≡ false) × (seat r ≢ other)). subst (λ k. k < length (set vs other nothing)) (sym (cond-false (eqb (seat r) other) pass (seat r) is.0)) (let sits = seated.0 r h in omega (arith, size, sits)))
              (eqb_tells (seat r) other)),
          (λ j u e r h. ⊎_elim
              (λ (is : (eqb (seat r) other ≡ true) × (seat r ≡ other)). subst (SeatedAt lists j u r) (sym (cond-true (eqb (seat r) other) pass (seat r) is.0)) (⊎_elim
              (λ (t : (j ≡ other) × (nothing ≡ u)). told (part u r) (lists r) j pass (λ same. absurd (two (sym t.0 ∙ same))) (λ _. ap (λ x. part x r) (sym t.1) ∙ part_nothing r))
              (λ (t : (j ≢ other) × (get_elem? vs j ≡ some u)). ⊎_elim
              (λ (here : (j ≡ pass) × (both ≡ u)). told (part u r) (lists r) j pass
              (λ _. ap (λ x. part x r) (sym here.1 ∙ is_both) ∙ part_united v w r
              ∙ ap (λ o. either_of o (part w r)) (not_here (part v r) (lists r) pass (seat r) (seated.1 pass v at r h) (λ sits. two (sym is.1 ∙ sym sits)))
              ∙ here_is (part w r) (lists r) other (seat r) (seated.1 other w was r h) (sym is.1))
              (λ apart. absurd (apart here.0)))
              (λ (there : (j ≢ pass) × (get_elem? views j ≡ some u)). told (part u r) (lists r) j pass
              (λ same. absurd (there.0 same))
              (λ _. not_here (part u r) (lists r) j (seat r) (seated.1 j u there.1 r h) (λ sits. t.0 (sits ∙ is.1))))
              (at_set views pass j both u t.1))
              (at_set vs other j nothing u e)))
              (λ (is : (eqb (seat r) other ≡ false) × (seat r ≢ other)). subst (SeatedAt lists j u r) (sym (cond-false (eqb (seat r) other) pass (seat r) is.0)) (⊎_elim
              (λ (t : (j ≡ other) × (nothing ≡ u)). told (part u r) (lists r) j (seat r) (λ sits. absurd (is.1 (sym sits ∙ t.0))) (λ _. ap (λ x. part x r) (sym t.1) ∙ part_nothing r))
              (λ (t : (j ≢ other) × (get_elem? vs j ≡ some u)). ⊎_elim
              (λ (here : (j ≡ pass) × (both ≡ u)).
              ap (λ x. part x r) (sym here.1 ∙ is_both) ∙ part_united v w r
              ∙ ap (λ o. either_of (part v r) o) (not_here (part w r) (lists r) other (seat r) (seated.1 other w was r h) (λ sits. is.1 (sym sits)))
              ∙ sym (either_none (part v r)) ∙ seated.1 pass v at r h ∙ ap (λ k. cond (eqb k (seat r)) (Some (lists r)) None) (sym here.0))
              (λ (there : (j ≢ pass) × (get_elem? views j ≡ some u)). seated.1 j u there.1 r h)
              (at_set views pass j both u t.1))
              (at_set vs other j nothing u e)))
              (eqb_tells (seat r) other)),
          (λ j u e. ⊎_elim
              (λ (t : (j ≡ other) × (nothing ≡ u)). ap length (sym t.1))
              (λ (t : (j ≢ other) × (get_elem? vs j ≡ some u)). ⊎_elim
              (λ (here : (j ≡ pass) × (both ≡ u)). ap length (sym here.1 ∙ is_both) ∙ length-united v w (long ∙ sym long') ∙ long)
              (λ (there : (j ≢ pass) × (get_elem? views j ≡ some u)). seated.2 j u there.1)
              (at_set views pass j both u t.1))
              (at_set vs other j nothing u e)),
        ),
        kept.3,
        kept.4,
      )
