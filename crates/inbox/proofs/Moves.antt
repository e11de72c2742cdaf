-- Each step at an inbox keeps its rule.
use Rattle.std.proofs.Common.{◌≡◌, ◌≢◌, ℕ, zero, suc, ◌<◌, Bool, true, false, cond, eqb, List, [], ◌∷◌, ◌++◌, length, set, Option, Some, None, refl, sym, ap, ◌∙◌, subst, ⊎_elim, arith, append_assoc}
use Rattle.std.proofs.lemmas.Bool.{cond-true, cond-false, eqb-true, eq-eqb, ne_eqb}
use Rattle.std.proofs.lemmas.Bool.Decides.{eqb_tells}
use Rattle.std.proofs.lemmas.List.{length-set, get_or-set_same, get_or-set_other, map-append}
use Rattle.std.proofs.lemmas.Option.{cond_some}
use mathlib.Core.Option.{some}
use lib.ListN.{get_elem?}
use Rattle.crossbeam_queue.specs.Fifo.{Pushes, Pops, Learns}
use Rattle.crossbeam_queue.proofs.Lists.{at_set}
use Rattle.inbox.specs.Roles.{loads, from, AllFed, listed, part, list_of, HoldsRole, nothing, only, IsOnly, added, Seated, Kept, Moment, StaysAtOffer, StaysAtTake, SawBeside, WasFront}

module _ {X : Type 0} where
  -- what a pass that holds a role knows of it
  pub seat_of : (seat : ℕ → ℕ) (lists : ℕ → List (ℕ × X)) (views : List (List (Option (List (ℕ × X))))) (pass : ℕ) (v : List (Option (List (ℕ × X)))) (role : ℕ)
      → role < 6 → Seated seat lists views → get_elem? views pass ≡ some v → HoldsRole v role → (pass ≡ seat role) × (lists role ≡ list_of v role)
  seat_of seat lists views pass v role small seated at holds =
      let there = cond_some (eqb pass (seat role)) (lists role) (list_of v role) (sym (seated.1 pass v at role small) ∙ holds) in
      (eqb-true pass (seat role) there.0, there.1)

  pub part_set : (v : List (Option (List (ℕ × X)))) (r s : ℕ) (o : Option (List (ℕ × X))) → r < length v → part (set v r o) s ≡ cond (eqb s r) o (part v s)
  part_set v r s o small = ⊎_elim
      (λ (e : (eqb s r ≡ true) × (s ≡ r)). ap (λ k. part (set v r o) k) e.1 ∙ get_or-set_same v r o None small ∙ sym (cond-true (eqb s r) o (part v s) e.0))
      (λ (e : (eqb s r ≡ false) × (s ≢ r)). get_or-set_other v r s o None e.1 ∙ sym (cond-false (eqb s r) o (part v s) e.0))
      (eqb_tells s r)

  grown : (ℕ → List (ℕ × X)) → ℕ → ℕ × X → ℕ → List (ℕ × X)
  grown lists role x s = cond (eqb s role) (lists role ++ x ∷ []) (lists s)

  -- the lists with one parcel more in one of them
  grown_same : (lists : ℕ → List (ℕ × X)) (role : ℕ) (x : ℕ × X) → grown lists role x role ≡ lists role ++ x ∷ []
  unfolding grown
  grown_same lists role x = cond-true (eqb role role) (lists role ++ x ∷ []) (lists role) (eq-eqb role role refl)

  grown_other : (lists : ℕ → List (ℕ × X)) (role : ℕ) (x : ℕ × X) (s : ℕ) → s ≢ role → grown lists role x s ≡ lists s
  unfolding grown
  grown_other lists role x s other = cond-false (eqb s role) (lists role ++ x ∷ []) (lists s) (ne_eqb s role other)

  seated_added : (seat : ℕ → ℕ) (lists : ℕ → List (ℕ × X)) (views : List (List (Option (List (ℕ × X))))) (pass : ℕ) (v : List (Option (List (ℕ × X)))) (role : ℕ) (x : ℕ × X)
      → role < 6 → Seated seat lists views → get_elem? views pass ≡ some v → HoldsRole v role → Seated seat (grown lists role x) (set views pass (added v role x))
  seated_added seat lists views pass v role x small seated at holds =
      let mine = seat_of seat lists views pass v role small seated at holds in
      let long : length v ≡ 6 = seated.2 pass v at in (
        (λ r h. subst (λ n. seat r < n) (sym (length-set views pass (added v role x))) (seated.0 r h)),
        (λ j u e r h. ⊎_elim
            (λ (here : (j ≡ pass) × (added v role x ≡ u)). ap (λ w. part w r) (sym here.1) ∙ part_set v role r (Some (list_of v role ++ x ∷ [])) (omega arith) ∙ ⊎_elim
            (λ (is : (eqb r role ≡ true) × (r ≡ role)).
            cond-true _ _ _ is.0 ∙ ap (λ l. Some (l ++ x ∷ [])) (sym mine.1) ∙ ap Some (sym (grown_same lists role x) ∙ ap (grown lists role x) (sym is.1))
            ∙ sym (cond-true _ _ _ (eq-eqb j (seat r) (here.0 ∙ mine.0 ∙ ap seat (sym is.1)))))
            (λ (is : (eqb r role ≡ false) × (r ≢ role)).
            cond-false _ _ _ is.0 ∙ seated.1 pass v at r h ∙ ap (λ l. cond (eqb pass (seat r)) (Some l) None) (sym (grown_other lists role x r is.1))
            ∙ ap (λ k. cond (eqb k (seat r)) (Some (grown lists role x r)) None) (sym here.0))
            (eqb_tells r role))
            (λ (there : (j ≢ pass) × (get_elem? views j ≡ some u)). seated.1 j u there.1 r h ∙ ⊎_elim
            (λ (is : (eqb r role ≡ true) × (r ≡ role)).
            let off : eqb j (seat r) ≡ false = ne_eqb j (seat r) (λ same. there.0 (same ∙ ap seat is.1 ∙ sym mine.0)) in
            cond-false _ _ _ off ∙ sym (cond-false _ _ _ off))
            (λ (is : (eqb r role ≡ false) × (r ≢ role)). ap (λ l. cond (eqb j (seat r)) (Some l) None) (sym (grown_other lists role x r is.1)))
            (eqb_tells r role))
            (at_set views pass j (added v role x) u e)),
        (λ j u e. ⊎_elim
            (λ (here : (j ≡ pass) × (added v role x ≡ u)). ap length (sym here.1) ∙ length-set v role (Some (list_of v role ++ x ∷ [])) ∙ long)
            (λ (there : (j ≢ pass) × (get_elem? views j ≡ some u)). seated.2 j u there.1)
            (at_set views pass j (added v role x) u e)),
      )

  from-append : (feeder : ℕ) (ps : List (ℕ × X)) (x : ℕ × X) → from feeder (ps ++ x ∷ []) ≡ from feeder ps ++ cond (eqb x.0 feeder) (x.1 ∷ []) []
  from-append feeder [] x = refl
  from-append feeder (p ∷ ps) x = by (eqb p.0 feeder) (from feeder (ps ++ x ∷ [])) (from-append feeder ps x)
    where
      by : (b : Bool) (l : List X) → l ≡ from feeder ps ++ cond (eqb x.0 feeder) (x.1 ∷ []) [] → cond b (p.1 ∷ l) l ≡ cond b (p.1 ∷ from feeder ps) (from feeder ps) ++ cond (eqb x.0 feeder) (x.1 ∷ []) []
      by true l e = ap (λ l. p.1 ∷ l) e
      by false l e = e

  fed-append : (Sound : X → Type 0) (ps : List (ℕ × X)) (x : ℕ × X) → AllFed Sound ps → 0 < x.0 → x.0 < 6 → Sound x.1 → AllFed Sound (ps ++ x ∷ [])
  fed-append Sound [] x fed low high sound = (low, high, sound, fed)
  fed-append Sound (p ∷ ps) x fed low high sound = (fed.0, fed.1, fed.2, fed-append Sound ps x fed.3 low high sound)

  fed_middle : (Sound : X → Type 0) (ps : List (ℕ × X)) (x : ℕ × X) (qs : List (ℕ × X)) → AllFed Sound (ps ++ x ∷ qs) → (0 < x.0) × (x.0 < 6) × Sound x.1
  fed_middle Sound [] x qs fed = (fed.0, fed.1, fed.2)
  fed_middle Sound (p ∷ ps) x qs fed = fed_middle Sound ps x qs fed.3

  pub pushes : (Sound : X → Type 0) (sees : List (ℕ × X) → List (ℕ × X) → Type 0) (n pass : ℕ) (v : List (Option (List (ℕ × X)))) (x : ℕ × X) → 0 < x.0 → x.0 < 6 → Sound x.1 → HoldsRole v x.0 → StaysAtOffer sees n x.0 (loads (list_of v x.0)) x.1 → Pushes (Kept Sound sees) n pass v x (λ w. w ≡ added v x.0 x)
  pushes Sound sees n pass v x low high sound holds stays items views room kept at =
      let seat = kept.0 in let lists = kept.1 in let whole = kept.3 in let now = grown lists x.0 x in
      let taken : now 0 ≡ lists 0 = grown_other lists x.0 x 0 (λ e. omega arith) in
      let joined : now 0 ++ (items ++ x ∷ []) ≡ (lists 0 ++ items) ++ x ∷ [] = ap (λ l. l ++ (items ++ x ∷ [])) taken ∙ sym (append_assoc (lists 0) items (x ∷ [])) in (
        added v x.0 x,
        (
          seat,
          now,
          seated_added seat lists views pass v x.0 x high kept.2 at holds,
          (
            (λ feeder a b. ⊎_elim
                (λ (is : (eqb feeder x.0 ≡ true) × (feeder ≡ x.0)).
                ap (λ k. loads (now k)) is.1 ∙ ap loads (grown_same lists x.0 x) ∙ map-append (λ p. p.1) (lists x.0) (x ∷ [])
                ∙ ap (λ k. loads (lists k) ++ x.1 ∷ []) (sym is.1) ∙ ap (λ l. l ++ x.1 ∷ []) (whole.0 feeder a b)
                ∙ sym (ap (from feeder) joined ∙ from-append feeder (lists 0 ++ items) x ∙ ap (λ l. from feeder (lists 0 ++ items) ++ l) (cond-true (eqb x.0 feeder) (x.1 ∷ []) [] (eq-eqb x.0 feeder (sym is.1)))))
                (λ (is : (eqb feeder x.0 ≡ false) × (feeder ≢ x.0)).
                ap loads (grown_other lists x.0 x feeder is.1) ∙ whole.0 feeder a b ∙ sym (append-nil (from feeder (lists 0 ++ items)))
                ∙ sym (ap (from feeder) joined ∙ from-append feeder (lists 0 ++ items) x ∙ ap (λ l. from feeder (lists 0 ++ items) ++ l) (cond-false (eqb x.0 feeder) (x.1 ∷ []) [] (ne_eqb x.0 feeder (λ e. is.1 (sym e))))))
                (eqb_tells feeder x.0)),
            subst (AllFed Sound) (sym joined) (fed-append Sound (lists 0 ++ items) x whole.1 low high sound),
          ),
          subst (λ (l : List (ℕ × X)). sees l (items ++ x ∷ [])) (sym taken)
              (stays (lists 0) items room (sym (whole.0 x.0 low high) ∙ ap loads (seat_of seat lists views pass v x.0 high kept.2 at holds).1) kept.4),
        ),
        refl,
      )
    where
      append-nil : (l : List X) → l ++ [] ≡ l
      append-nil [] = refl
      append-nil (y ∷ ys) = ap (λ l. y ∷ l) (append-nil ys)

  pub pops : (Sound : X → Type 0) (sees : List (ℕ × X) → List (ℕ × X) → Type 0) (pass : ℕ) (v : List (Option (List (ℕ × X)))) → HoldsRole v 0 → StaysAtTake sees (list_of v 0) → Pops (Kept Sound sees) pass v (λ x w. (w ≡ added v 0 x) × (0 < x.0) × (x.0 < 6) × Sound x.1 × WasFront sees (list_of v 0) x)
  pops Sound sees pass v holds stays x items views kept at =
      let seat = kept.0 in let lists = kept.1 in let whole = kept.3 in let now = grown lists 0 x in
      let joined : now 0 ++ items ≡ lists 0 ++ x ∷ items = ap (λ l. l ++ items) (grown_same lists 0 x) ∙ append_assoc (lists 0) (x ∷ []) items in (
        added v 0 x,
        (
          seat,
          now,
          seated_added seat lists views pass v 0 x (omega arith) kept.2 at holds,
          (
            (λ feeder a b. ap loads (grown_other lists 0 x feeder (λ e. omega arith)) ∙ whole.0 feeder a b ∙ ap (from feeder) (sym joined)),
            subst (AllFed Sound) (sym joined) whole.1,
          ),
          (let mine : lists 0 ≡ list_of v 0 = (seat_of seat lists views pass v 0 (omega arith) kept.2 at holds).1 in
              subst (λ (l : List (ℕ × X)). sees l items) (ap (λ (l : List (ℕ × X)). l ++ x ∷ []) (sym mine) ∙ sym (grown_same lists 0 x))
              (stays x items (subst (λ (l : List (ℕ × X)). sees l (x ∷ items)) mine kept.4))),
        ),
        (let fed = fed_middle Sound (lists 0) x items whole.1 in
            let mine : lists 0 ≡ list_of v 0 = (seat_of seat lists views pass v 0 (omega arith) kept.2 at holds).1 in
            (refl, fed.0, fed.1, fed.2, (items, subst (λ (l : List (ℕ × X)). sees l (x ∷ items)) mine kept.4))),
      )

  -- what the rule tells of the watch beside a feeder's pass, and beside the taker's
  pub learns_beside : (Sound : X → Type 0) (sees : List (ℕ × X) → List (ℕ × X) → Type 0) (pass : ℕ) (v : List (Option (List (ℕ × X)))) → Learns (Kept Sound sees) pass v (SawBeside sees v)
  learns_beside Sound sees pass v items views kept at feeder low high holds =
      (kept.1 0, sym (kept.3.0 feeder low high) ∙ ap loads (seat_of kept.0 kept.1 views pass v feeder high kept.2 at holds).1, kept.4)

  pub learns_taken : (Sound : X → Type 0) (sees : List (ℕ × X) → List (ℕ × X) → Type 0) (pass : ℕ) (v : List (Option (List (ℕ × X)))) → HoldsRole v 0 → Learns (Kept Sound sees) pass v (λ items. sees (list_of v 0) items)
  learns_taken Sound sees pass v holds items views kept at =
      subst (λ (l : List (ℕ × X)). sees l items) (seat_of kept.0 kept.1 views pass v 0 (omega arith) kept.2 at holds).1 kept.4

  pub learns : (Sound : X → Type 0) (sees : List (ℕ × X) → List (ℕ × X) → Type 0) (pass : ℕ) (v : List (Option (List (ℕ × X)))) → Learns (Kept Sound sees) pass v (Moment Sound sees v)
  learns Sound sees pass v items views kept at = (pass, views, kept, at)

  -- a view that holds one role alone, after one parcel more
  pub only_added : (v : List (Option (List (ℕ × X)))) (role : ℕ) (x : ℕ × X) → role < 6 → IsOnly role v → IsOnly role (added v role x)
  only_added v role x small is =
      let new = Some (list_of v role ++ x ∷ []) in
      let long : role < length v = subst (λ n. role < n) (sym (ap length is.0 ∙ length-set nothing role (part v role))) small in
      let mine : part (added v role x) role ≡ new = get_or-set_same v role new None long in
      (ap (λ w. set w role new) is.0 ∙ set_twice nothing role (part v role) new ∙ ap (λ o. only role o) (sym mine), mine ∙ ap Some (sym (ap listed mine)))
    where
      set_twice : (l : List (Option (List (ℕ × X)))) (i : ℕ) (a b : Option (List (ℕ × X))) → set (set l i a) i b ≡ set l i b
      set_twice [] i a b = refl
      set_twice (y ∷ ys) zero a b = refl
      set_twice (y ∷ ys) (suc i) a b = ap (λ l. y ∷ l) (set_twice ys i a b)

  pub list_added : (v : List (Option (List (ℕ × X)))) (role : ℕ) (x : ℕ × X) → role < 6 → IsOnly role v → list_of (added v role x) role ≡ list_of v role ++ x ∷ []
  list_added v role x small is =
      ap listed (get_or-set_same v role (Some (list_of v role ++ x ∷ [])) None (subst (λ n. role < n) (sym (ap length is.0 ∙ length-set nothing role (part v role))) small))

  pub loads_added : (v : List (Option (List (ℕ × X)))) (role : ℕ) (x : ℕ × X) → role < 6 → IsOnly role v → loads (list_of (added v role x) role) ≡ loads (list_of v role) ++ x.1 ∷ []
  loads_added v role x small is = ap loads (list_added v role x small is) ∙ map-append (λ p. p.1) (list_of v role) (x ∷ [])
