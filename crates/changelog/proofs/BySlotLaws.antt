-- What the owners of all slots tell, where it is renewed at the slots of changes.
use Rattle.std.proofs.Common.{◌≡◌, ℕ, zero, suc, ◌+◌, ◌-◌, ◌<◌, ◌≤◌, ◌||◌, nat_le, eqb, Bool, true, false, Option, None, List, [], ◌∷◌, ◌++◌, map, take, drop, length, get_or, set, replicate, ◌⊎◌, inl, inr, true≢false, refl, sym, ap, subst, ◌∙◌, arith, length-set}
use Rattle.std.specs.List.{list_any, range_with_len, AllByRecursion}
use Rattle.std.proofs.lemmas.Bool.{eqb-true, eqb-false, cases_lt}
use Rattle.std.proofs.lemmas.List.{ext_get_or, take-append-le, length-map, get_or-set_same, get_or-set_other}
use Rattle.std.proofs.lemmas.List.FromFn.{length-map-range_with_len, get_or-map-range_with_len}
use Rattle.std.proofs.lemmas.List.Sums.{count_by-le-length}
use Rattle.as_base.specs.declared.message.Change.{Change}
use Rattle.as_base.specs.declared.query.Plan.{Plan}
use Rattle.views.specs.IsHolder.{time_of}
use Rattle.changelog.specs.Changes.{slot_of, times_of, until, epoch_at, owner, owner_in}
use Rattle.changelog.specs.BySlot.{by_slot, renewed}
use Rattle.changelog.specs.EpochsFor.{EpochsFor, IsKept, owned}
use Rattle.changelog.specs.declared.epochs.Epochs.{Epochs}
use Rattle.changelog.proofs.OwnerLaws.{owner-between}

-- where each slot that is not renewed has what it shall have already, and each other gets it, all have it
pub renewed-all : {X : Type 0} (d : X) (f goal : ℕ → X) (slots : List ℕ) (xs : List X)
    → AllByRecursion (λ s. s < 512) slots → ((slot : ℕ) → f slot ≡ goal slot) → length xs ≡ 512
    → ((slot : ℕ) → slot < 512 → list_any (λ s. eqb s slot) slots ≡ false → get_or xs slot d ≡ goal slot)
    → renewed f xs slots ≡ map goal (range_with_len 0 512)
renewed-all d f goal [] xs below same long has =
    ext_get_or d xs (map goal (range_with_len 0 512)) (long ∙ sym (length-map-range_with_len goal 0 512))
    (λ i within. has i (subst (λ n. i < n) long within) refl ∙ sym (get_or-map-range_with_len goal 0 512 i i d (subst (λ n. i < n) long within) (omega arith)))
renewed-all d f goal (s ∷ slots) xs below same long has =
    renewed-all d f goal slots (set xs s (f s)) below.1 same (length-set xs s (f s) ∙ long)
    (λ slot within others. at slot within others (eqb s slot) refl)
  where
    at : (slot : ℕ) → slot < 512 → list_any (λ n. eqb n slot) slots ≡ false → (b : Bool) → eqb s slot ≡ b → get_or (set xs s (f s)) slot d ≡ goal slot
    at slot within others true e =
        subst (λ n. get_or (set xs s (f s)) n d ≡ goal n) (eqb-true s slot e)
        (get_or-set_same xs s (f s) d (subst (λ n. s < n) (sym long) below.0) ∙ same s)
    at slot within others false e =
        get_or-set_other xs s slot (f s) d (λ is. eqb-false s slot e (sym is))
        ∙ has slot within (ap (λ b. b || list_any (λ n. eqb n slot) slots) e ∙ others)

-- What the owners of an epoch tell, renewed at the slots of all changes up to a later one, is what the owners of that tell.
pub by_slot-between : {X : Type 0} (tells : Option (ℕ × Plan) → X) (e : Epochs) (cs : List Change) (from to : ℕ) (slots : List ℕ) (xs : List X)
    → EpochsFor e cs → IsKept e from → from ≤ to → AllByRecursion (λ slot. slot < 512) slots
    → slots ≡ map slot_of (take (to - from) (drop from cs)) → xs ≡ by_slot tells cs from
    → renewed (λ slot. tells (owned e to slot)) xs slots ≡ by_slot tells cs to
unfolding by_slot
by_slot-between tells e cs from to slots xs stands kept later below are stand =
    renewed-all (tells None) (λ slot. tells (owned e to slot)) (λ slot. tells (owner cs to slot)) slots xs below
    (λ slot. ap tells (stands.0.owners slot to (omega (arith, kept, later))))
    (ap length stand ∙ length-map-range_with_len (λ slot. tells (owner cs from slot)) 0 512)
    (λ slot within others.
    ap (λ l. get_or l slot (tells None)) stand
    ∙ get_or-map-range_with_len (λ n. tells (owner cs from n)) 0 512 slot slot (tells None) within (omega arith)
    ∙ ap tells (sym (owner-between cs from to slot later (subst (λ l. list_any (λ n. eqb n slot) l ≡ false) are others))))

-- The same backwards: the slots of all changes after the epoch, up to the one that the list stands for.
pub by_slot-back : {X : Type 0} (tells : Option (ℕ × Plan) → X) (e : Epochs) (cs : List Change) (from to : ℕ) (slots : List ℕ) (xs : List X)
    → EpochsFor e cs → IsKept e to → to ≤ from → AllByRecursion (λ slot. slot < 512) slots
    → slots ≡ map slot_of (take (from - to) (drop to cs)) → xs ≡ by_slot tells cs from
    → renewed (λ slot. tells (owned e to slot)) xs slots ≡ by_slot tells cs to
unfolding by_slot
by_slot-back tells e cs from to slots xs stands kept earlier below are stand =
    renewed-all (tells None) (λ slot. tells (owned e to slot)) (λ slot. tells (owner cs to slot)) slots xs below
    (λ slot. ap tells (stands.0.owners slot to kept))
    (ap length stand ∙ length-map-range_with_len (λ slot. tells (owner cs from slot)) 0 512)
    (λ slot within others.
    ap (λ l. get_or l slot (tells None)) stand
    ∙ get_or-map-range_with_len (λ n. tells (owner cs from n)) 0 512 slot slot (tells None) within (omega arith)
    ∙ ap tells (owner-between cs to from slot earlier (subst (λ l. list_any (λ n. eqb n slot) l ≡ false) are others)))

range-below : (a n m : ℕ) → a + n ≤ m → AllByRecursion (λ slot. slot < m) (range_with_len a n)
range-below a zero m h = tt
range-below a (suc n) m h = (omega (arith, h), range-below (a + 1) n m (omega (arith, h)))

range-has : (a n slot : ℕ) → a ≤ slot → slot < a + n → list_any (λ k. eqb k slot) (range_with_len a n) ≡ true
range-has a zero slot low high = absurd (omega (arith, low, high))
range-has a (suc n) slot low high = by_cases (eqb a slot) refl (λ later. range-has (a + 1) n slot later (omega (arith, high)))
  where
    after : ¬ (a ≡ slot) → (a < slot) ⊎ (slot ≤ a) → a + 1 ≤ slot
    after other (inl lt) = omega (arith, lt)
    after other (inr ge) = absurd (other (omega (arith, low, ge)))

    by_cases : (b : Bool) → eqb a slot ≡ b → (a + 1 ≤ slot → list_any (λ k. eqb k slot) (range_with_len (a + 1) n) ≡ true)
        → (eqb a slot || list_any (λ k. eqb k slot) (range_with_len (a + 1) n)) ≡ true
    by_cases true e rest = ap (λ b. b || list_any (λ k. eqb k slot) (range_with_len (a + 1) n)) e
    by_cases false e rest =
        ap (λ b. b || list_any (λ k. eqb k slot) (range_with_len (a + 1) n)) e ∙ rest (after (eqb-false a slot e) (cases_lt a slot))

-- Where all slots are renewed by their owners in an epoch, the list before may be any.
pub by_slot-anew : {X : Type 0} (tells : Option (ℕ × Plan) → X) (e : Epochs) (cs : List Change) (to : ℕ) (xs : List X)
    → EpochsFor e cs → IsKept e to → length xs ≡ 512
    → renewed (λ slot. tells (owned e to slot)) xs (range_with_len 0 512) ≡ by_slot tells cs to
unfolding by_slot
by_slot-anew tells e cs to xs stands kept long =
    renewed-all (tells None) (λ slot. tells (owned e to slot)) (λ slot. tells (owner cs to slot)) (range_with_len 0 512) xs
    (range-below 0 512 512 (omega arith))
    (λ slot. ap tells (stands.0.owners slot to kept))
    long
    (λ slot within others. absurd (true≢false (sym (range-has 0 512 slot (omega arith) (omega (arith, within))) ∙ others)))

pub map-as : {X Y : Type 0} (f g : X → Y) (xs : List X) → ((x : X) → f x ≡ g x) → map f xs ≡ map g xs
map-as f g [] h = refl
map-as f g (x ∷ xs) h = ap (λ y. y ∷ map f xs) (h x) ∙ ap (λ l. g x ∷ l) (map-as f g xs h)

pub replicate-map : {X : Type 0} (x : X) (a n : ℕ) → replicate n x ≡ map (λ _. x) (range_with_len a n)
replicate-map x a zero = refl
replicate-map x a (suc n) = ap (λ l. x ∷ l) (replicate-map x (a + 1) n)

-- two that tell the same of each owner tell the same slot by slot
pub by_slot-as : {X : Type 0} (f g : Option (ℕ × Plan) → X) (cs : List Change) (epoch : ℕ)
    → ((o : Option (ℕ × Plan)) → f o ≡ g o) → by_slot f cs epoch ≡ by_slot g cs epoch
unfolding by_slot
by_slot-as f g cs epoch h =
    map-as (λ slot. f (owner cs epoch slot)) (λ slot. g (owner cs epoch slot)) (range_with_len 0 512) (λ slot. h (owner cs epoch slot))

-- in epoch 0 nobody owns a slot
pub by_slot-first : {X : Type 0} (tells : Option (ℕ × Plan) → X) (cs : List Change) → replicate 512 (tells None) ≡ by_slot tells cs 0
unfolding by_slot
by_slot-first tells cs = replicate-map (tells None) 0 512

-- a change that is appended alters no epoch that was there
pub by_slot-push : {X : Type 0} (tells : Option (ℕ × Plan) → X) (cs : List Change) (c : Change) (epoch : ℕ)
    → epoch ≤ length cs → by_slot tells (cs ++ c ∷ []) epoch ≡ by_slot tells cs epoch
unfolding by_slot
by_slot-push tells cs c epoch h =
    map-as (λ slot. tells (owner (cs ++ c ∷ []) epoch slot)) (λ slot. tells (owner cs epoch slot)) (range_with_len 0 512)
    (λ slot. ap (λ ds. tells (owner_in ds slot)) (take-append-le epoch cs (c ∷ []) h))

until_within : (t : ℕ) (times : List ℕ) → until t times ≤ length times
until_within t times = count_by-le-length (λ n. nat_le n t) times

-- there are at least as many changes as came by a time
pub epoch_within : (cs : List Change) (t : ℕ) → epoch_at cs t ≤ length cs
epoch_within cs t = subst (λ n. epoch_at cs t ≤ n) (length-map cs time_of) (until_within t (times_of cs))
