-- Indexes of the bounds of slots: what they hold after a slot was given bounds or lost them, and what they answer.
use Rattle.std.proofs.Common.{◌≡◌, ℕ, ◌<◌, ℤ, Bool, true, false, ◌&&◌, cond, List, [], ◌∷◌, map, length, get_or, set, replicate, IsTrue, length-set, Option, Some, None, refl, sym, subst, ap, ap₂, ◌∙◌, arith}
use Rattle.std.proofs.lemmas.List.{map-set, set-get_or, get_or-map}
use Rattle.as_base.specs.Query.{at, is_within, holds_all}
use Rattle.as_base.specs.declared.item.Given.{Given}
use Rattle.as_base.specs.declared.query.Bounds.{Bounds}
use Rattle.queryset_lanes.specs.Slots.{both}
use Rattle.box_lanes.specs.declared.start.Start.{Start}
use Rattle.box_lanes.specs.declared.indexes.Indexes.{Indexes}
use Rattle.box_lanes.specs.Columns.{holds_in, selected}
use Rattle.box_lanes.specs.Index.{empty_table, IsMarked}
use Rattle.box_lanes.specs.Indexed.{holds_field, IsIndexOf, AreIndexes, AreIndexed, no_indexes, look_all, AreFit, AreMarked}

-- ---- a slot gets bounds, or loses them

set_nothing : (xs : List Bool) (i : ℕ) (b : Bool) → get_or xs i false ≡ b → set xs i b ≡ xs
set_nothing xs i b e = ap (set xs i) (sym e) ∙ set-get_or xs i false

-- a slot whose bounds hold the value as `on` says gets what holds it so, where it is within; elsewhere neither holds it
one_slot : (field : ℕ) (slots : List (Option Bounds)) (slot : ℕ) (x : Option Bounds) (value : ℤ) (on inside : Bool) → slot < length slots → (inside ≡ true → holds_field field value x ≡ on) → (inside ≡ false → holds_field field value x ≡ false) → (inside ≡ false → holds_field field value (get_or slots slot None) ≡ false) → cond inside (set (map (holds_field field value) slots) slot on) (map (holds_field field value) slots) ≡ map (holds_field field value) (set slots slot x)
one_slot field slots slot x value on true low here new old =
    let h : Option Bounds → Bool = holds_field field value in
    ap (set (map h slots) slot) (sym (here refl)) ∙ sym (map-set h slots slot x)
one_slot field slots slot x value on false low here new old =
    let h : Option Bounds → Bool = holds_field field value in
    sym (set_nothing (map h slots) slot (h x) (get_or-map h slots slot None false low ∙ old refl ∙ sym (new refl))) ∙ sym (map-set h slots slot x)

pub index-set : (field : ℕ) (old new : List Start) (slots : List (Option Bounds)) (slot : ℕ) (b : Bounds) → slot < length slots → get_or slots slot None ≡ None → IsIndexOf old field slots → IsMarked slot (at b.lo field) (at b.hi field) true old new → IsIndexOf new field (set slots slot (Some b))
index-set field old new slots slot b low none is made value fits =
    let inside : Bool = is_within (at b.lo field) value (at b.hi field) in
    made value fits
    ∙ ap (λ xs. cond inside (set xs slot true) xs) (is value fits)
    ∙ one_slot field slots slot (Some b) value true inside low (λ e. e) (λ e. e) (λ e. ap (holds_field field value) none)

pub index-clear : (field : ℕ) (old new : List Start) (slots : List (Option Bounds)) (slot : ℕ) (b : Bounds) → slot < length slots → get_or slots slot None ≡ Some b → IsIndexOf old field slots → IsMarked slot (at b.lo field) (at b.hi field) false old new → IsIndexOf new field (set slots slot None)
index-clear field old new slots slot b low some is made value fits =
    let inside : Bool = is_within (at b.lo field) value (at b.hi field) in
    made value fits
    ∙ ap (λ xs. cond inside (set xs slot false) xs) (is value fits)
    ∙ one_slot field slots slot None value false inside low (λ e. refl) (λ e. refl) (λ e. ap (holds_field field value) some ∙ e)

pub indexes-set : (old new : Indexes) (slots : List (Option Bounds)) (slot : ℕ) (b : Bounds) → slot < length slots → get_or slots slot None ≡ None → AreIndexes old slots → AreMarked slot b true old new → AreIndexes new (set slots slot (Some b))
indexes-set old new slots slot b low none are made = record {
  key = index-set 0 old.key new.key slots slot b low none are.key made.key;
  first = index-set 1 old.v1 new.v1 slots slot b low none are.first made.first;
  second = index-set 2 old.v2 new.v2 slots slot b low none are.second made.second;
  third = index-set 3 old.v3 new.v3 slots slot b low none are.third made.third;
  fourth = index-set 4 old.v4 new.v4 slots slot b low none are.fourth made.fourth;
}

pub indexes-clear : (old new : Indexes) (slots : List (Option Bounds)) (slot : ℕ) (b : Bounds) → slot < length slots → get_or slots slot None ≡ Some b → AreIndexes old slots → AreMarked slot b false old new → AreIndexes new (set slots slot None)
indexes-clear old new slots slot b low some are made = record {
  key = index-clear 0 old.key new.key slots slot b low some are.key made.key;
  first = index-clear 1 old.v1 new.v1 slots slot b low some are.first made.first;
  second = index-clear 2 old.v2 new.v2 slots slot b low some are.second made.second;
  third = index-clear 3 old.v3 new.v3 slots slot b low some are.third made.third;
  fourth = index-clear 4 old.v4 new.v4 slots slot b low some are.fourth made.fourth;
}

pub indexed-set : (old new : Indexes) (slots after : List (Option Bounds)) (slot : ℕ) (b : Bounds) → slot < 512 → AreIndexed old slots → get_or slots slot None ≡ None → after ≡ set slots slot (Some b) → (IsTrue new.is_whole → AreMarked slot b true old new) → AreIndexed new after
indexed-set old new slots after slot b low is none e made = record {
  long = ap length e ∙ length-set slots slot (Some b) ∙ is.long;
  whole = λ whole.
      let mark = made whole in
      subst (λ xs. AreIndexes new xs) (sym e) (indexes-set old new slots slot b (omega (arith, low, is.long)) none (is.whole mark.whole) mark);
}

pub indexed-clear : (old new : Indexes) (slots after : List (Option Bounds)) (slot : ℕ) (b : Bounds) → slot < 512 → AreIndexed old slots → get_or slots slot None ≡ Some b → after ≡ set slots slot None → (IsTrue new.is_whole → AreMarked slot b false old new) → AreIndexed new after
indexed-clear old new slots after slot b low is some e made = record {
  long = ap length e ∙ length-set slots slot None ∙ is.long;
  whole = λ whole.
      let mark = made whole in
      subst (λ xs. AreIndexes new xs) (sym e) (indexes-clear old new slots slot b (omega (arith, low, is.long)) some (is.whole mark.whole) mark);
}

-- ---- no bounds

empty-of : (field : ℕ) → IsIndexOf empty_table field (replicate 512 None)
empty-of field value fits = refl

pub indexes-none : AreIndexes no_indexes (replicate 512 None)
indexes-none = record { key = empty-of 0; first = empty-of 1; second = empty-of 2; third = empty-of 3; fourth = empty-of 4 }

pub indexed-none : (x : Indexes) (slots : List (Option Bounds)) → x ≡ no_indexes → slots ≡ replicate 512 None → AreIndexed x slots
indexed-none x slots e none = record {
  long = ap length none;
  whole = λ is. subst (λ y. AreIndexes y slots) (sym e) (subst (λ xs. AreIndexes no_indexes xs) (sym none) indexes-none);
}

-- ---- the slots that are selected

one_selected : (x : Option Bounds) (read : Bool) (g : Given) → ((holds_field 0 g.key x && (holds_field 1 (at g.v 0) x && holds_field 2 (at g.v 1) x) && (holds_field 3 (at g.v 2) x && holds_field 4 (at g.v 3) x)) && read) ≡ (read && holds_in x g)
one_selected None true g = refl
one_selected None false g = refl
one_selected (Some b) read g = swap (holds_all b g) read
  where
    swap : (p q : Bool) → (p && q) ≡ (q && p)
    swap true true = refl
    swap true false = refl
    swap false true = refl
    swap false false = refl

all_selected : (slots : List (Option Bounds)) (reads : List Bool) (g : Given) → both (both (both (map (holds_field 0 g.key) slots) (both (map (holds_field 1 (at g.v 0)) slots) (map (holds_field 2 (at g.v 1)) slots))) (both (map (holds_field 3 (at g.v 2)) slots) (map (holds_field 4 (at g.v 3)) slots))) reads ≡ selected slots reads g
all_selected [] reads g = refl
all_selected (x ∷ xs) [] g = refl
all_selected (x ∷ xs) (r ∷ rs) g = ap₂ (λ y ys. y ∷ ys) (one_selected x r g) (all_selected xs rs g)

pub selected-looked : (x : Indexes) (slots : List (Option Bounds)) (reads : List Bool) (g : Given) → AreIndexes x slots → AreFit g → both (look_all x g) reads ≡ selected slots reads g
selected-looked x slots reads g are fit =
    (λ t. both (both (both (are.key g.key fit.key t) (both (are.first (at g.v 0) fit.first t) (are.second (at g.v 1) fit.second t))) (both (are.third (at g.v 2) fit.third t) (are.fourth (at g.v 3) fit.fourth t))) reads)
    ∙ all_selected slots reads g
