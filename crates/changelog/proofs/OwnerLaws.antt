-- Who owns a slot after one change more, and after changes of other slots.
use Rattle.std.proofs.Common.{◌≡◌, ℕ, ◌+◌, ◌-◌, ◌≤◌, nat_le, eqb, Bool, true, false, cond, Option, None, List, [], ◌∷◌, ◌++◌, length, map, take, drop, refl, sym, ap, ◌∙◌, arith}
use Rattle.std.specs.List.{list_any}
use Rattle.std.proofs.lemmas.Bool.{leb-true, leb-false, or_parts}
use Rattle.std.proofs.lemmas.List.{length-append, take_all, take-append-le}
use Rattle.std.proofs.Math.Seq.{take-add}
use Rattle.as_base.specs.declared.message.Change.{Change}
use Rattle.as_base.specs.declared.query.Plan.{Plan}
use Rattle.changelog.specs.Changes.{slot_of, opened_by, owner_from, owner_in, owner}

owner_from-append : (before : Option (ℕ × Plan)) (cs ds : List Change) (slot : ℕ) → owner_from before (cs ++ ds) slot ≡ owner_from (owner_from before cs slot) ds slot
owner_from-append before [] ds slot = refl
owner_from-append before (c ∷ cs) ds slot = owner_from-append (cond (eqb (slot_of c) slot) (opened_by c) before) cs ds slot

pub owner-push : (cs : List Change) (c : Change) (epoch slot : ℕ) → owner (cs ++ c ∷ []) epoch slot ≡ cond (nat_le (length cs + 1) epoch) (cond (eqb (slot_of c) slot) (opened_by c) (owner cs epoch slot)) (owner cs epoch slot)
owner-push cs c epoch slot = by_cases (nat_le (length cs + 1) epoch) refl
  where
    by_cases : (b : Bool) → nat_le (length cs + 1) epoch ≡ b → owner (cs ++ c ∷ []) epoch slot ≡ cond b (cond (eqb (slot_of c) slot) (opened_by c) (owner cs epoch slot)) (owner cs epoch slot)
    by_cases true e =
        let past = leb-true (length cs + 1) epoch e in
        ap (λ ds. owner_in ds slot) (take_all epoch (cs ++ c ∷ []) (omega (arith, length-append cs (c ∷ []), past)))
        ∙ owner_from-append None cs (c ∷ []) slot
        ∙ sym (ap (λ ds. cond (eqb (slot_of c) slot) (opened_by c) (owner_in ds slot)) (take_all epoch cs (omega (arith, past))))
    by_cases false e =
        let early = leb-false (length cs + 1) epoch e in
        ap (λ ds. owner_in ds slot) (take-append-le epoch cs (c ∷ []) (omega (arith, early)))

-- changes of other slots say nothing
owner_from-others : (before : Option (ℕ × Plan)) (cs : List Change) (slot : ℕ) → list_any (λ n. eqb n slot) (map slot_of cs) ≡ false → owner_from before cs slot ≡ before
owner_from-others before [] slot others = refl
owner_from-others before (c ∷ cs) slot others =
    let parts = or_parts (eqb (slot_of c) slot) (list_any (λ n. eqb n slot) (map slot_of cs)) others in
    ap (λ b. owner_from (cond b (opened_by c) before) cs slot) parts.0 ∙ owner_from-others before cs slot parts.1

-- a slot that no change between two epochs opens or closes has the same owner in both
pub owner-between : (cs : List Change) (from to slot : ℕ) → from ≤ to → list_any (λ n. eqb n slot) (map slot_of (take (to - from) (drop from cs))) ≡ false → owner cs to slot ≡ owner cs from slot
owner-between cs from to slot le others =
    let sum : to ≡ from + (to - from) = omega (arith, le) in
    let between = take (to - from) (drop from cs) in
    ap (λ n. owner_in (take n cs) slot) sum
    ∙ ap (λ ds. owner_in ds slot) (take-add from (to - from) cs)
    ∙ owner_from-append None (take from cs) between slot
    ∙ owner_from-others (owner cs from slot) between slot others
