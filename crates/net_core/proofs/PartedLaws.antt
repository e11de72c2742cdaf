-- Lists of which each element goes to a part: what is made of the parts, one after another, and of all.
use Rattle.std.proofs.Common.{◌≡◌, ℕ, ◌+◌, ◌<◌, ◌&&◌, ◌||◌, nat_le, nat_lt, eqb, Bool, cond, true, false, zero, suc, List, [], ◌∷◌, ◌++◌, map, refl, sym, ap, ◌∙◌, append-nil, arith}
use Rattle.std.specs.List.{filter, flat_map, range_with_len, AllByRecursion}
use Rattle.std.proofs.lemmas.Bool.{and_from, le-leb, lt-ltb, lt-leb, eqb-true, ne_eqb, or_parts, or_from}
use Rattle.std.proofs.lemmas.Grind.{flat_map-append}
use Rattle.std.proofs.lemmas.List.{map-append}
use Rattle.std.proofs.lemmas.List.Elements.{filter-append}
use Rattle.views.proofs.ListLaws.{All-by, All-every, All-append, filter-filter, filter-same, flat_map-same}
use Rattle.views.proofs.RisingLaws.{Rises, list_any-range}
use Rattle.contents.specs.Free.{Free, Same, member, Once}
use Rattle.contents.proofs.FreeLaws.{eq_turn, equal, then, every_same, where_same, by_keys}

-- ---- lists

pub filter-flat_map : {X Y : Type 0} (p : Y → Bool) (f : X → List Y) (xs : List X) → filter p (flat_map f xs) ≡ flat_map (λ x. filter p (f x)) xs
filter-flat_map p f [] = refl
filter-flat_map p f (x ∷ xs) = filter-append p (f x) (flat_map f xs) ∙ ap (λ l. filter p (f x) ++ l) (filter-flat_map p f xs)

pub flat_map-flat_map : {X Y Z : Type 0} (g : Y → List Z) (f : X → List Y) (xs : List X) → flat_map g (flat_map f xs) ≡ flat_map (λ x. flat_map g (f x)) xs
flat_map-flat_map g f [] = refl
flat_map-flat_map g f (x ∷ xs) = flat_map-append g (f x) (flat_map f xs) ∙ ap (λ l. flat_map g (f x) ++ l) (flat_map-flat_map g f xs)

pub flat_map-none : {X Y : Type 0} (f : X → List Y) (xs : List X) → AllByRecursion (λ x. f x ≡ []) xs → flat_map f xs ≡ []
flat_map-none f [] h = refl
flat_map-none f (x ∷ xs) h = ap (λ l. l ++ flat_map f xs) h.0 ∙ flat_map-none f xs h.1

pub flat_map-every : {X Y : Type 0} (f g : X → List Y) (xs : List X) → ((x : X) → f x ≡ g x) → flat_map f xs ≡ flat_map g xs
flat_map-every f g xs h = flat_map-same f g xs (All-every (λ x. f x ≡ g x) h xs)

pub map-flat_map : {X Y Z : Type 0} (g : Y → Z) (f : X → List Y) (xs : List X) → map g (flat_map f xs) ≡ flat_map (λ x. map g (f x)) xs
map-flat_map g f [] = refl
map-flat_map g f (x ∷ xs) = map-append g (f x) (flat_map f xs) ∙ ap (λ l. map g (f x) ++ l) (map-flat_map g f xs)

-- what holds of all that each element gives
pub All-flat_map : {X Y : Type 0} (P : Y → Type 0) (f : X → List Y) (xs : List X) → AllByRecursion (λ x. AllByRecursion P (f x)) xs → AllByRecursion P (flat_map f xs)
All-flat_map P f [] h = tt
All-flat_map P f (x ∷ xs) h = All-append P (f x) (flat_map f xs) h.0 (All-flat_map P f xs h.1)

and_turn : (a b : Bool) → (a && b) ≡ (b && a)
and_turn true true = refl
and_turn true false = refl
and_turn false true = refl
and_turn false false = refl

pub filter-turn : {X : Type 0} (p q : X → Bool) (xs : List X) → filter p (filter q xs) ≡ filter q (filter p xs)
filter-turn p q xs =
    filter-filter p q xs
    ∙ filter-same (λ x. q x && p x) (λ x. p x && q x) xs (All-every (λ x. (q x && p x) ≡ (p x && q x)) (λ x. and_turn (q x) (p x)) xs)
    ∙ sym (filter-filter q p xs)

-- ---- numbers

pub member-range : (k n : ℕ) → k < n → member k (range_with_len 0 n) ≡ true
member-range k n low = list_any-range k 0 n ∙ and_from (nat_le 0 k) (nat_lt k (0 + n)) (le-leb 0 k (omega arith)) (lt-ltb k (0 + n) (omega (arith, low)))

pub once-range : (a n : ℕ) → Once (range_with_len a n)
once-range a zero = tt
once-range a (suc n) = (list_any-range a (a + 1) n ∙ ap (λ b. b && nat_lt a ((a + 1) + n)) (lt-leb (a + 1) a (omega arith)), once-range (a + 1) n)

-- a number below all of these is none of them
pub member-below : (k : ℕ) (ks : List ℕ) → AllByRecursion (λ j. k < j) ks → member k ks ≡ false
member-below k [] h = refl
member-below k (j ∷ ks) h = let low = h.0 in or_from (eqb j k) (member k ks) (ne_eqb j k (λ e. omega (arith, low, e))) (member-below k ks h.1)

pub once-rising : (ks : List ℕ) → Rises ks → Once ks
once-rising [] h = tt
once-rising (k ∷ ks) h = (member-below k ks h.0, once-rising ks h.1)

pub none-of : {X : Type 0} (k : ℕ) (cs : List ℕ) (xs : List X) → member k cs ≡ false → flat_map (λ c. cond (eqb c k) xs []) cs ≡ []
none-of k [] xs e = refl
none-of k (c ∷ cs) xs e = let p = or_parts (eqb c k) (member k cs) e in ap (λ b. cond b xs [] ++ flat_map (λ c. cond (eqb c k) xs []) cs) p.0 ∙ none-of k cs xs p.1

-- what is given once
pub one-of : {X : Type 0} (k : ℕ) (cs : List ℕ) (xs : List X) → Once cs → flat_map (λ c. cond (eqb c k) xs []) cs ≡ cond (member k cs) xs []
one-of k [] xs o = refl
one-of k (c ∷ cs) xs o = go (eqb c k) refl (one-of k cs xs o.1)
  where
    go : (b : Bool) → eqb c k ≡ b → flat_map (λ c. cond (eqb c k) xs []) cs ≡ cond (member k cs) xs []
        → cond b xs [] ++ flat_map (λ c. cond (eqb c k) xs []) cs ≡ cond (b || member k cs) xs []
    go true e h = ap (λ l. xs ++ l) (none-of k cs xs (ap (λ n. member n cs) (sym (eqb-true c k e)) ∙ o.0)) ∙ append-nil xs
    go false e h = h

-- ---- parts

-- the elements that go to part n
abbrev pub those : {X : Type 0} → (X → ℕ) → List X → ℕ → List X
those part xs n = filter (λ x. eqb (part x) n) xs

-- each element goes to one of the parts
abbrev pub GoTo : {X : Type 0} → (X → ℕ) → List ℕ → List X → Type 0
GoTo part ns xs = AllByRecursion (λ x. member (part x) ns ≡ true) xs

module _ {X Y B : Type 0} (step : B → X → B) (free : Free step) where
  -- Steps that may change places make the same of the elements of some parts, one part after another, and of all those that go
  -- to them.
  pub those-parted : (f : Y → List X) (p : Y → Bool) (part : Y → ℕ) (ns : List ℕ) (ys : List Y) → Once ns
      → Same step (flat_map (λ n. flat_map f (filter p (those part ys n))) ns) (flat_map (λ y. cond (p y && member (part y) ns) (f y) []) ys)
  those-parted f p part ns ys once =
      then (every_same (λ n. flat_map f (filter p (those part ys n))) (λ n. flat_map f (filter (λ y. p y && eqb n (part y)) ys)) ns (λ n. equal (ap (flat_map f) (turned n))))
      (by_keys step free f p part ns ys once)
    where
      turned : (n : ℕ) → filter p (those part ys n) ≡ filter (λ y. p y && eqb n (part y)) ys
      turned n =
          filter-filter p (λ y. eqb (part y) n) ys
          ∙ filter-same (λ y. eqb (part y) n && p y) (λ y. p y && eqb n (part y)) ys
          (All-every (λ y. (eqb (part y) n && p y) ≡ (p y && eqb n (part y))) (λ y. and_turn (eqb (part y) n) (p y) ∙ ap (λ b. p y && b) (eq_turn n (part y))) ys)

  -- where each goes to one of them, of all
  pub all-parted : (f : Y → List X) (p : Y → Bool) (part : Y → ℕ) (ns : List ℕ) (ys : List Y) → Once ns → GoTo part ns ys
      → Same step (flat_map (λ n. flat_map f (filter p (those part ys n))) ns) (flat_map f (filter p ys))
  all-parted f p part ns ys once all =
      then (those-parted f p part ns ys once)
      (then (equal (each ys all)) (equal (sym (where_same f p ys))))
    where
      each : (zs : List Y) → GoTo part ns zs → flat_map (λ y. cond (p y && member (part y) ns) (f y) []) zs ≡ flat_map (λ y. cond (p y) (f y) []) zs
      each zs h =
          flat_map-same (λ y. cond (p y && member (part y) ns) (f y) []) (λ y. cond (p y) (f y) []) zs
          (All-by (λ y. member (part y) ns ≡ true) (λ y. cond (p y && member (part y) ns) (f y) [] ≡ cond (p y) (f y) [])
          (λ y e. ap (λ b. cond b (f y) []) (ap (λ b. p y && b) e ∙ and_turn (p y) true)) zs h)
