-- The slots that columns select are those that want the record, and these are the record's set by views.
use Rattle.std.proofs.Common.{◌≡◌, ℕ, zero, suc, ◌+◌, ◌^◌, ◌<◌, ◌&&◌, nat_lt, nat_le, eqb, Bool, true, false, cond, Option, Some, None, List, [], ◌∷◌, map, replicate, refl, sym, ap, subst, ◌∙◌, arith}
use Rattle.std.specs.List.{find, range_with_len}
use Rattle.std.proofs.lemmas.Bool.{and_parts, eq-eqb}
use Rattle.std.proofs.lemmas.Simd.{zip2_of_maps}
use Rattle.as_base.specs.declared.item.Given.{Given}
use Rattle.as_base.specs.declared.item.Record.{Record}
use Rattle.as_base.specs.declared.message.Change.{Change}
use Rattle.as_base.specs.declared.query.Bounds.{Bounds}
use Rattle.as_base.specs.declared.query.Plan.{Plan}
use Rattle.as_base.specs.declared.stream.StreamId.{StreamId}
use Rattle.as_base.specs.Stream.{place_of}
use Rattle.as_base.specs.Query.{holds_all}
use Rattle.views.specs.View.{reads, bounds_for}
use Rattle.views.specs.Slots.{Holder, holders_of, lives_at, has_slot, has_mine, set_of}
use Rattle.views.specs.Slots as slots
use Rattle.box_lanes.specs.Columns.{holds_in, selected}
use Rattle.changelog.specs.BySlot.{by_slot}
use Rattle.changelog.specs.Changes.{epoch_at, owner}
use Rattle.changelog.specs.Orderly.{named, IsOrderly}
use Rattle.changelog.proofs.BySlotLaws.{map-as, replicate-map}
use Rattle.changelog.proofs.HolderLaws.{owners-from}
use Rattle.shared_select.specs.Wanting.{wants, wanting, bounds_on, bounds_in}

-- ---- what columns select

chosen : (g : Given) (o : Option (ℕ × Plan)) → (true && holds_in (bounds_on g.stream o) g) ≡ wants g o
chosen g None = refl
chosen g (Some q) = go (reads q.1 g.stream)
  where
    go : (b : Bool) → holds_in (cond b (Some (bounds_for q.1 g.stream)) None) g ≡ (b && holds_all (bounds_for q.1 g.stream) g)
    go true = refl
    go false = refl

-- of the bounds of an epoch's owners for the record's stream, those hold the record whose owners want it
pub selected-wanting : (cs : List Change) (epoch : ℕ) (g : Given)
    → selected (bounds_in cs epoch g.stream) (replicate 512 true) g ≡ wanting cs epoch g
unfolding by_slot
selected-wanting cs epoch g =
    zip2_of_maps (λ b read. read && holds_in b g) (λ slot. bounds_on g.stream (owner cs epoch slot)) (λ _. true) (range_with_len 0 512) refl (replicate-map true 0 512)
    ∙ map-as (λ slot. true && holds_in (bounds_on g.stream (owner cs epoch slot)) g) (λ slot. wants g (owner cs epoch slot)) (range_with_len 0 512)
    (λ slot. chosen g (owner cs epoch slot))

-- columns with the bounds of an epoch's owners select, of all slots, those that want a record of the columns' stream
pub tagged : (cs : List Change) (epoch : ℕ) (s : StreamId) (columns : List (Option Bounds)) (all : List Bool) (g : Given)
    → columns ≡ bounds_in cs epoch s → all ≡ replicate 512 true → g.stream ≡ s → selected columns all g ≡ wanting cs epoch g
tagged cs epoch s columns all g stand whole same =
    ap (λ l. selected l all g) (stand ∙ ap (bounds_in cs epoch) (sym same))
    ∙ ap (λ l. selected (bounds_in cs epoch g.stream) l g) whole
    ∙ selected-wanting cs epoch g

-- ---- the set by views

not_none : {X : Type 0} (x : X) → None ≡ Some x → ⊥
not_none x e = cc

some_same : {X : Type 0} (x y : X) → Some x ≡ Some y → x ≡ y
some_same x y e = cc

-- what is found passes
found : {X : Type 0} (p : X → Bool) (xs : List X) (x : X) → find p xs ≡ Some x → p x ≡ true
found p [] x e = absurd (not_none x e)
found p (y ∷ xs) x e = go (p y) refl e (λ h. found p xs x h)
  where
    go : (b : Bool) → p y ≡ b → cond b (Some y) (find p xs) ≡ Some x → (find p xs ≡ Some x → p x ≡ true) → p x ≡ true
    go true h e rest = subst (λ z. p z ≡ true) (some_same y x e) h
    go false h e rest = rest e

-- a record of a time at which the query lives belongs to it if the query wants it
mine-lives : (r : Record) (h : Holder) → lives_at h.query r.given.time ≡ true → wants r.given (Some (h.query.n, h.query.plan)) ≡ has_mine r (Some h)
mine-lives r h lives =
    table (reads h.query.plan r.given.stream) (eqb (place_of r.given.stream) (place_of r.given.stream)) (nat_le h.query.from r.given.time)
    (nat_lt r.given.time h.query.to) (holds_all (bounds_for h.query.plan r.given.stream) r.given)
    (eq-eqb (place_of r.given.stream) (place_of r.given.stream) refl)
    (and_parts (nat_le h.query.from r.given.time) (nat_lt r.given.time h.query.to) lives).0
    (and_parts (nat_le h.query.from r.given.time) (nat_lt r.given.time h.query.to) lives).1
  where
    table : (a b c d e : Bool) → b ≡ true → c ≡ true → d ≡ true → (a && e) ≡ (a && b && c && d && e)
    table true b c d e h i j =
        sym (ap (λ x. true && x && c && d && e) h ∙ ap (λ x. true && true && x && d && e) i ∙ ap (λ x. true && true && true && x && e) j)
    table false b c d e h i j = refl

pub wants-mine : (r : Record) (hs : List Holder) (slot : ℕ)
    → wants r.given (named (slots.owner hs r.given.time slot)) ≡ has_mine r (slots.owner hs r.given.time slot)
wants-mine r hs slot = go (slots.owner hs r.given.time slot) refl
  where
    go : (o : Option Holder) → slots.owner hs r.given.time slot ≡ o → wants r.given (named o) ≡ has_mine r o
    go None e = refl
    go (Some h) e = mine-lives r h (and_parts (eqb h.slot slot) (lives_at h.query r.given.time) (found (has_slot r.given.time slot) hs h e)).1

-- The slots that want a record in the epoch of its time are its set.
pub wanting-set_of : (cs : List Change) (r : Record) → IsOrderly cs → r.given.time < 2 ^ 62
    → wanting cs (epoch_at cs r.given.time) r.given ≡ set_of (holders_of cs) r
unfolding by_slot
wanting-set_of cs r orderly low =
    map-as (λ slot. wants r.given (owner cs (epoch_at cs r.given.time) slot)) (λ slot. has_mine r (slots.owner (holders_of cs) r.given.time slot)) (range_with_len 0 512)
    (λ slot. ap (wants r.given) (owners-from r.given.time slot 0 [] cs (omega arith) low (record { settled = tt; alone = tt }) orderly)
    ∙ wants-mine r (holders_of cs) slot)

-- the same of what a record says alone, in an epoch that is that of its time
pub tagged-set_of : (cs : List Change) (epoch : ℕ) (g : Given) (r : Record) → IsOrderly cs → r.given ≡ g → r.given.time < 2 ^ 62
    → epoch ≡ epoch_at cs r.given.time → wanting cs epoch g ≡ set_of (holders_of cs) r
tagged-set_of cs epoch g r orderly given low at =
    ap (λ x. wanting cs epoch x) (sym given) ∙ ap (λ e. wanting cs e r.given) at ∙ wanting-set_of cs r orderly low
