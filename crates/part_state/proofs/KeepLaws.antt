-- Whether a record is kept, by the slots of its set.
use Rattle.std.proofs.Common.{◌≡◌, ℕ, ◌+◌, ◌<◌, ◌^◌, ◌&&◌, ◌||◌, eqb, inl, inr, Bool, true, false, Option, Some, None, List, [], ◌∷◌, map, refl, sym, ap, ap₂, ◌∙◌, arith}
use Rattle.std.proofs.lemmas.Bool.{eqb-true, and_parts, or_cases, both_ways}
use Rattle.std.proofs.lemmas.List.FromFn.{get_or-range_with_len, length-range_with_len}
use Rattle.std.proofs.lemmas.List.Folds.{list_any_at}
use Rattle.std.specs.List.{list_any, range_with_len, AllByRecursion}
use Rattle.std.specs.Simd.Lanes.{zip2}
use Rattle.as_base.specs.declared.item.Record.{Record}
use Rattle.changelog.specs.BySlot.{by_slot}
use Rattle.changelog.specs.Changes.{owner, epoch_at}
use Rattle.changelog.specs.Orderly.{named, owner_at}
use Rattle.queryset_lanes.specs.Slots.{meets}
use Rattle.views.specs.Slots as views
use Rattle.views.specs.Slots.{Holder, lives_at, has_mine, set_of, holders_of}
use Rattle.views.specs.View.{is_mine}
use Rattle.views.proofs.ListLaws.{list_any-map}
use Rattle.contents.specs.IsPast.{IsHolder, IsPast, LiveApart}
use Rattle.contents.specs.Kept.{keeps, is_wanted}
use Rattle.contents.specs.Past.{Past}
use Rattle.contents.proofs.CellLaws.{mine-parts}
use Rattle.contents.proofs.PairLaws.{found, any-among}
use Rattle.contents.proofs.SoleLaws.{All-among, owner-found, owner-is}
use Rattle.part_state.specs.Keeping.{keeps_records, keeping}

-- the owner of the slot has the record, and keeps records
abbrev keeps_it : Record → Option Holder → Bool
keeps_it r None = false
keeps_it r (Some h) = keeps h.query.plan.kind && is_mine h.query r.given.stream r

-- the holder has the record, and keeps records
abbrev wants_it : Record → Holder → Bool
wants_it r h = keeps h.query.plan.kind && is_mine h.query r.given.stream r

pub both-same : (a b : Bool) → (a ≡ true → b ≡ true) → (b ≡ true → a ≡ true) → a ≡ b
both-same true b f g = sym (f refl)
both-same false true f g = absurd (both_ways false refl (g refl))
both-same false false f g = refl

and-turned : (a b : Bool) → (a && b) ≡ (b && a)
and-turned true true = refl
and-turned true false = refl
and-turned false true = refl
and-turned false false = refl

by-owner : (r : Record) (o : Option Holder) → (has_mine r o && keeps_records (named o)) ≡ keeps_it r o
by-owner r None = refl
by-owner r (Some h) = and-turned (is_mine h.query r.given.stream r) (keeps h.query.plan.kind)

zip-maps : {X Y Z W : Type 0} (f : Y → Z → W) (g : X → Y) (h : X → Z) (xs : List X) → zip2 f (map g xs) (map h xs) ≡ map (λ x. f (g x) (h x)) xs
zip-maps f g h [] = refl
zip-maps f g h (x ∷ xs) = ap (λ l. f (g x) (h x) ∷ l) (zip-maps f g h xs)

any-as : {X : Type 0} (p q : X → Bool) (xs : List X) → ((x : X) → p x ≡ q x) → list_any p xs ≡ list_any q xs
any-as p q [] e = refl
any-as p q (x ∷ xs) e = ap₂ (λ a b. a || b) (e x) (any-as p q xs e)

-- two sets that are told slot by slot meet just where some slot is in both
pub sets-meet : (f g : ℕ → Bool) (slots : List ℕ) → meets (map f slots) (map g slots) ≡ list_any (λ slot. f slot && g slot) slots
sets-meet f g slots = ap (λ l. list_any (λ on. on) l) (zip-maps (λ a b. a && b) f g slots) ∙ list_any-map (λ on. on) (λ slot. f slot && g slot) slots

pub found-slot : (p : ℕ → Bool) (slots : List ℕ) → list_any p slots ≡ true → (slot : ℕ) × (p slot ≡ true)
found-slot p [] e = absurd (both_ways false refl e)
found-slot p (s ∷ slots) e = elim (or_cases (p s) (list_any p slots) e) [
  | inl f ↦ (s, f)
  | inr f ↦ found-slot p slots f
]

pub any-slot : (p : ℕ → Bool) (slot n : ℕ) → slot < n → p slot ≡ true → list_any p (range_with_len 0 n) ≡ true
any-slot p slot n l e =
    list_any_at p (range_with_len 0 n) slot 0 (let len = length-range_with_len 0 n in omega (arith, l, len)) (ap p (get_or-range_with_len 0 n slot 0 l ∙ (let z : 0 + slot ≡ slot = omega arith in z)) ∙ e)

module _ (hs : List Holder) (r : Record) (apart : LiveApart hs) (sound : AllByRecursion IsHolder hs) where
  from-slots : list_any (λ slot. keeps_it r (views.owner hs r.given.time slot)) (range_with_len 0 512) ≡ true → is_wanted hs r ≡ true
  from-slots e =
      let x = found-slot (λ slot. keeps_it r (views.owner hs r.given.time slot)) (range_with_len 0 512) e in
      one x.0 (views.owner hs r.given.time x.0) refl x.1
    where
      one : (slot : ℕ) (o : Option Holder) → views.owner hs r.given.time slot ≡ o → keeps_it r o ≡ true → is_wanted hs r ≡ true
      one slot None is e = absurd (both_ways false refl e)
      one slot (Some h) is e =
          let parts = and_parts (keeps h.query.plan.kind) (is_mine h.query r.given.stream r) e in
          let f = owner-found hs r.given.time slot r (ap (has_mine r) is ∙ parts.1) in
          let own = and_parts (eqb f.0.slot slot) (lives_at f.0.query r.given.time) f.2 in
          let same : Some f.0 ≡ Some h = sym (owner-is hs f.0 r.given.time slot f.1 apart (eqb-true f.0.slot slot own.0) own.1) ∙ is in
          any-among (wants_it r) hs f.0 f.1 (ap (keeps_it r) same ∙ e)

  from-holders : is_wanted hs r ≡ true → list_any (λ slot. keeps_it r (views.owner hs r.given.time slot)) (range_with_len 0 512) ≡ true
  from-holders e =
      let f = found (wants_it r) hs e in
      let parts = and_parts (keeps f.0.query.plan.kind) (is_mine f.0.query r.given.stream r) f.2 in
      let lives = (mine-parts f.0.query r.given.stream r parts.1).lives in
      any-slot (λ slot. keeps_it r (views.owner hs r.given.time slot)) f.0.slot 512 (All-among IsHolder hs f.0 f.1 sound).slot
      (ap (keeps_it r) (owner-is hs f.0 r.given.time f.0.slot f.1 apart refl lives) ∙ f.2)

-- A record's set meets the slots whose owners keep records just where some selection or join has it.
pub kept-wanted : (p : Past) (r : Record) → IsPast p → r.given.time < 2 ^ 62 → ((slot : ℕ) → owner p.changes (epoch_at p.changes r.given.time) slot ≡ owner_at p.holders r.given.time slot)
    → meets (set_of p.holders r) (keeping p.changes (epoch_at p.changes r.given.time)) ≡ is_wanted p.holders r
unfolding by_slot
kept-wanted p r past time owners =
    let hs : List Holder = p.holders in
    let e : ℕ = epoch_at p.changes r.given.time in
    sets-meet (λ slot. has_mine r (views.owner hs r.given.time slot)) (λ slot. keeps_records (owner p.changes e slot)) (range_with_len 0 512)
    ∙ any-as (λ slot. has_mine r (views.owner hs r.given.time slot) && keeps_records (owner p.changes e slot)) (λ slot. keeps_it r (views.owner hs r.given.time slot)) (range_with_len 0 512)
    (λ slot. ap (λ o. has_mine r (views.owner hs r.given.time slot) && keeps_records o) (owners slot) ∙ by-owner r (views.owner hs r.given.time slot))
    ∙ both-same (list_any (λ slot. keeps_it r (views.owner hs r.given.time slot)) (range_with_len 0 512)) (is_wanted hs r)
    (from-slots hs r past.apart past.holders) (from-holders hs r past.apart past.holders)
