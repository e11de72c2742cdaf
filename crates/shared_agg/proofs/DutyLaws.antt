-- The classes of the duties, one of which is renewed, and the duties of all slots.
use Rattle.std.proofs.Common.{◌≡◌, ℕ, zero, suc, ◌+◌, ◌<◌, Bool, false, Option, Some, None, List, [], ◌∷◌, ◌++◌, map, set, get_or, length, replicate, refl, sym, ap, ap₂, ◌∙◌, arith, length-set}
use Rattle.std.proofs.lemmas.List.{get_or-map, length-replicate}
use Rattle.std.specs.List.{range_with_len}
use Rattle.std.proofs.lemmas.List.Sums.{fold-append}
use Rattle.as_base.specs.declared.item.Given.{Given}
use Rattle.as_base.specs.declared.query.Col.{Col}
use Rattle.as_base.specs.declared.query.Col.TheVariants.{V1}
use Rattle.as_base.specs.declared.query.Group.{Group}
use Rattle.as_base.specs.declared.query.Group.TheVariants as group
use Rattle.as_base.specs.declared.query.Kind.{Kind}
use Rattle.as_base.specs.declared.query.Kind.TheVariants.{Select, Sum, Count, Join}
use Rattle.as_base.specs.declared.query.Plan.{Plan}
use Rattle.changelog.specs.BySlot.{renewed}
use Rattle.queryset_lanes.specs.Slots.{has_slot}
use Rattle.shared_agg.specs.declared.duties.Class.{Class}
use Rattle.shared_agg.specs.declared.duties.Duty.{Duty}
use Rattle.shared_agg.specs.Shares.{share_of, shares}
use Rattle.shared_agg.specs.Duties.{duty_in, duty_of, dues, is_of, kinds, class_of, class_at, marked, AreClasses, all_slots}

map-set : {X Y : Type 0} (f : X → Y) (xs : List X) (k : ℕ) (x : X) → set (map f xs) k (f x) ≡ map f (set xs k x)
map-set f [] zero x = refl
map-set f [] (suc k) x = refl
map-set f (y ∷ xs) zero x = refl
map-set f (y ∷ xs) (suc k) x = ap (λ l. f y ∷ l) (map-set f xs k x)

map-replicate : {X Y : Type 0} (f : X → Y) (n : ℕ) (x : X) → map f (replicate n x) ≡ replicate n (f x)
map-replicate f zero x = refl
map-replicate f (suc n) x = ap (λ l. f x ∷ l) (map-replicate f n x)

-- one slot has another duty
marked-all : (duties : List (Option Duty)) (slot : ℕ) (duty : Option Duty) (ks : List Duty)
    → map (marked slot duty) (map (class_of duties) ks) ≡ map (class_of (set duties slot duty)) ks
marked-all duties slot duty [] = refl
marked-all duties slot duty (k ∷ ks) =
    ap₂ (λ (l : List Bool) (cs : List Class). record { group = k.group; column = k.column; slots = l } ∷ cs)
    (map-set (is_of k.group k.column) duties slot duty) (marked-all duties slot duty ks)

pub classes-set : (duties : List (Option Duty)) (classes classes' : List Class) (used used' : List Bool) (slot : ℕ) (duty : Option Duty) → AreClasses duties classes used
    → classes' ≡ map (marked slot duty) classes → used' ≡ map (λ (c : Class). has_slot c.slots) classes' → AreClasses (set duties slot duty) classes' used'
classes-set duties classes classes' used used' slot duty h is are = record {
  long = length-set duties slot duty ∙ h.long;
  classes_are = is ∙ ap (map (marked slot duty)) h.classes_are ∙ marked-all duties slot duty kinds;
  used_are = are;
}

-- no slot has a duty
pub none-of : (by : Group) (column : Option Col) → map (is_of by column) (replicate 512 None) ≡ replicate 512 false
none-of by column = map-replicate (is_of by column) 512 None

none-on : (n : ℕ) → has_slot (replicate n false) ≡ false
none-on zero = refl
none-on (suc n) = none-on n

none-used : (ks : List Duty) → map (λ (c : Class). has_slot c.slots) (map (class_of (replicate 512 None)) ks) ≡ replicate (length ks) false
none-used [] = refl
none-used (k ∷ ks) = ap₂ (λ (b : Bool) l. b ∷ l) (ap has_slot (none-of k.group k.column) ∙ none-on 512) (none-used ks)

pub classes-none : (classes : List Class) → classes ≡ map (class_of (replicate 512 None)) kinds → AreClasses (replicate 512 None) classes (replicate 30 false)
classes-none classes is = record {
  long = length-replicate {A = Option Duty} 512 None;
  classes_are = is;
  used_are = sym (ap (map (λ (c : Class). has_slot c.slots)) is ∙ none-used kinds);
}

-- the class at a place
module _ (duties : List (Option Duty)) (classes : List Class) (used : List Bool) (h : AreClasses duties classes used) (place : ℕ) (low : place < 30) where
  pub class-is : (d : Class) → get_or classes place d ≡ class_at duties place
  class-is d = ap (λ l. get_or l place d) h.classes_are ∙ get_or-map (class_of duties) kinds place (record { group = group.Key; column = Some V1 }) d (omega (arith, low))

  pub used-is : (b : Bool) → get_or used place b ≡ has_slot (class_at duties place).slots
  used-is b =
      ap (λ l. get_or l place b) (h.used_are ∙ ap (map (λ (c : Class). has_slot c.slots)) h.classes_are)
      ∙ get_or-map (λ (c : Class). has_slot c.slots) (map (class_of duties) kinds) place (class_at duties place) b (omega (arith, low))
      ∙ ap (λ (c : Class). has_slot c.slots)
      (get_or-map (class_of duties) kinds place (record { group = group.Key; column = Some V1 }) (class_at duties place) (omega (arith, low)))

-- ---- all slots are renewed

range-part : (a n : ℕ) → range_with_len a (suc n) ≡ range_with_len a n ++ (a + n) ∷ []
range-part a zero = let e : a ≡ a + 0 = omega arith in ap (λ k. k ∷ []) e
range-part a (suc n) =
    let e : a + 1 + n ≡ a + suc n = omega arith in
    ap (λ l. a ∷ l) (range-part (a + 1) n ∙ ap (λ k. range_with_len (a + 1) n ++ k ∷ []) e)

range-more : (n : ℕ) → range_with_len 0 (n + 1) ≡ range_with_len 0 n ++ n ∷ []
range-more n =
    let e : n + 1 ≡ suc n = omega arith in
    let f : 0 + n ≡ n = omega arith in
    ap (range_with_len 0) e ∙ range-part 0 n ∙ ap (λ k. range_with_len 0 n ++ k ∷ []) f

pub renewed-more : {X : Type 0} (f : ℕ → X) (xs ys zs : List X) (n : ℕ) → ys ≡ renewed f xs (range_with_len 0 n) → zs ≡ set ys n (f n) → zs ≡ renewed f xs (range_with_len 0 (n + 1))
renewed-more f xs ys zs n so_far is =
    is ∙ ap (λ l. set l n (f n)) so_far
    ∙ sym (ap (renewed f xs) (range-more n) ∙ fold-append (λ l k. set l k (f k)) xs (range_with_len 0 n) (n ∷ []))

pub renewed-end : {X : Type 0} (f : ℕ → X) (xs ys : List X) (n : ℕ) → n ≡ 512 → ys ≡ renewed f xs (range_with_len 0 n) → ys ≡ renewed f xs all_slots
unfolding all_slots
renewed-end f xs ys n end so_far = so_far ∙ ap (λ k. renewed f xs (range_with_len 0 k)) end

-- ---- what a duty says

-- a record adds for a duty what it adds for the owner
pub dues-shares : (g : Given) (o : Option (ℕ × Plan)) → dues g (duty_of o) ≡ shares g o
dues-shares g None = refl
dues-shares g (Some q) = go q.1.group q.1.kind
  where
    go : (by : Group) (kind : Kind) → dues g (duty_in by kind) ≡ share_of by kind g
    go by (Sum c) = refl
    go by Count = refl
    go by Select = refl
    go by Join = refl
