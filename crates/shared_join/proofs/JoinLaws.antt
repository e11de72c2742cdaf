-- What a change of one lane, and of all lanes, does to what is kept by name.
use Rattle.std.proofs.Common.{◌≡◌, ℕ, zero, suc, ◌+◌, ◌*◌, ◌/◌, ◌%◌, ◌<◌, ◌&&◌, ◌||◌, eqb, Bool, true, false, cond, Option, Some, None, Result, Ok, Err, List, [], replicate, refl, sym, ap, ap₂, ◌∙◌, arith}
use Rattle.std.specs.Option.{unwrap_or, is_some}
use Rattle.std.specs.Result.{OnOk, OnErr}
use Rattle.std.proofs.lemmas.Bool.{eqb-true, eqb-false, eq-eqb}
use Rattle.as_base.specs.declared.stream.StreamId.{StreamId}
use Rattle.as_base.specs.declared.stream.StreamId.TheVariants.{A, B, C, D}
use Rattle.as_base.specs.Stream.{place_of}
use Rattle.shared_join.specs.declared.pair.Pair.{Pair}
use Rattle.shared_join.specs.Lanes.{Lane, met_at}
use Rattle.shared_join.specs.Joins.{lane_at, lane_place, is_name, has_slice, forgotten}
use Rattle.shared_join.proofs.LaneLaws.{met-forgotten}

place-few : (s : StreamId) → place_of s < 4
place-few A = omega arith
place-few B = omega arith
place-few C = omega arith
place-few D = omega arith

first-place : (s t : StreamId) → lane_place s t / 4 ≡ place_of s
first-place s t = let b = place-few t in omega (arith, b)

second-place : (s t : StreamId) → lane_place s t % 4 ≡ place_of t
second-place s t = let b = place-few t in omega (arith, b)

-- ---- no lane has anything

all-none : (n k : ℕ) → lane_at (replicate n []) k ≡ []
all-none zero k = refl
all-none (suc n) zero = refl
all-none (suc n) (suc k) = all-none n k

pub met-none : (lanes : List Lane) → lanes ≡ replicate 16 [] → (k c d : ℕ) → met_at (lane_at lanes k) c d ≡ None
met-none lanes is k c d = ap (λ (l : List Lane). met_at (lane_at l k) c d) is ∙ ap (λ (l : Lane). met_at l c d) (all-none 16 k)

-- ---- a pair of slices more

-- both streams are those of the lane, or the name is another
other-lane : (s t u v : StreamId) (c d e f : ℕ) → eqb (lane_place u v) (lane_place s t) ≡ false → is_name s c t d u e v f ≡ false
other-lane s t u v c d e f apart = go (eqb (place_of u) (place_of s)) (eqb (place_of v) (place_of t)) refl refl
  where
    late : (b : Bool) → (b && false) ≡ false
    late true = refl
    late false = refl

    go : (a b : Bool) → eqb (place_of u) (place_of s) ≡ a → eqb (place_of v) (place_of t) ≡ b → ((a && eqb e c) && (b && eqb f d)) ≡ false
    go true true p q = absurd (eqb-false (lane_place u v) (lane_place s t) apart (ap₂ (λ x y. 4 * x + y) (eqb-true (place_of u) (place_of s) p) (eqb-true (place_of v) (place_of t) q)))
    go true false p q = late (eqb e c)
    go false b p q = refl

same-lane : (s t u v : StreamId) (c d e f : ℕ) → eqb (lane_place u v) (lane_place s t) ≡ true → is_name s c t d u e v f ≡ (eqb e c && eqb f d)
same-lane s t u v c d e f same =
    let l = eqb-true (lane_place u v) (lane_place s t) same in
    let a = place-few s in
    let b = place-few t in
    let x = place-few u in
    let y = place-few v in
    let one : place_of u ≡ place_of s = omega (arith, l, a, b, x, y) in
    let two : place_of v ≡ place_of t = omega (arith, l, a, b, x, y) in
    ap₂ (λ p q. (p && eqb e c) && (q && eqb f d)) (eq-eqb (place_of u) (place_of s) one) (eq-eqb (place_of v) (place_of t) two)

-- what has met, by name
pub met-more : (s t : StreamId) (c d place : ℕ) (pairs : List Pair) (olds news : List Lane) → place ≡ lane_place s t
    → ((e f : ℕ) → met_at (lane_at news place) e f ≡ cond (eqb e c && eqb f d) (Some pairs) (met_at (lane_at olds place) e f))
    → ((k : ℕ) → eqb k place ≡ false → lane_at news k ≡ lane_at olds k)
    → (u : StreamId) (e : ℕ) (v : StreamId) (f : ℕ) → met_at (lane_at news (lane_place u v)) e f ≡ cond (is_name s c t d u e v f) (Some pairs) (met_at (lane_at olds (lane_place u v)) e f)
met-more s t c d place pairs olds news at more others u e v f = go (eqb (lane_place u v) (lane_place s t)) refl
  where
    go : (b : Bool) → eqb (lane_place u v) (lane_place s t) ≡ b → met_at (lane_at news (lane_place u v)) e f ≡ cond (is_name s c t d u e v f) (Some pairs) (met_at (lane_at olds (lane_place u v)) e f)
    go true same =
        let is : lane_place u v ≡ place = eqb-true (lane_place u v) (lane_place s t) same ∙ sym at in
        ap (λ n. met_at (lane_at news n) e f) is
        ∙ more e f
        ∙ ap₂ (λ b n. cond b (Some pairs) (met_at (lane_at olds n) e f)) (sym (same-lane s t u v c d e f same)) (sym is)
    go false apart =
        ap (λ (l : Lane). met_at l e f) (others (lane_place u v) (ap (eqb (lane_place u v)) at ∙ apart))
        ∙ ap (λ b. cond b (Some pairs) (met_at (lane_at olds (lane_place u v)) e f)) (sym (other-lane s t u v c d e f apart))

pub some-either : {X : Type 0} (b : Bool) (x : X) (o : Option X) → is_some (cond b (Some x) o) ≡ (b || is_some o)
some-either true x o = refl
some-either false x o = refl

-- ---- a slice less

pub met-less : (s : StreamId) (start place : ℕ) (olds news : List Lane) → place ≡ place_of s
    → ((k : ℕ) → lane_at news k ≡ forgotten (eqb (k / 4) place) (eqb (k % 4) place) start (lane_at olds k))
    → (u : StreamId) (e : ℕ) (v : StreamId) (f : ℕ) → met_at (lane_at news (lane_place u v)) e f ≡ cond (has_slice s start u e v f) None (met_at (lane_at olds (lane_place u v)) e f)
met-less s start place olds news at less u e v f =
    ap (λ (l : Lane). met_at l e f) (less (lane_place u v))
    ∙ met-forgotten (eqb (lane_place u v / 4) place) (eqb (lane_place u v % 4) place) start e f (lane_at olds (lane_place u v))
    ∙ ap₂ (λ a b. cond ((a && eqb e start) || (b && eqb f start)) None (met_at (lane_at olds (lane_place u v)) e f))
    (ap₂ eqb (first-place u v) at) (ap₂ eqb (second-place u v) at)

pub some-less : {X : Type 0} (b : Bool) (o : Option X) → is_some (cond b None o) ≡ cond b false (is_some o)
some-less true o = refl
some-less false o = refl

pub kept-less : {X : Type 0} (b : Bool) (o : Option (List X)) → unwrap_or (cond b None o) [] ≡ cond b [] (unwrap_or o [])
kept-less true o = refl
kept-less false o = refl

-- none has met where it is not said that it has
pub none-some : {X : Type 0} (o : Option X) → is_some o ≡ false → o ≡ None
none-some None h = refl
none-some (Some x) h = cc

-- ---- what callers are told

-- the same, of a name that is the same
pub met-named : (s s' : StreamId) (c c' : ℕ) (t t' : StreamId) (d d' : ℕ) (pairs : List Pair) (old new : StreamId → ℕ → StreamId → ℕ → Option (List Pair)) → s ≡ s' → c ≡ c' → t ≡ t' → d ≡ d'
    → ((u : StreamId) (e : ℕ) (v : StreamId) (f : ℕ) → new u e v f ≡ cond (is_name s c t d u e v f) (Some pairs) (old u e v f))
    → (u : StreamId) (e : ℕ) (v : StreamId) (f : ℕ) → new u e v f ≡ cond (is_name s' c' t' d' u e v f) (Some pairs) (old u e v f)
met-named s s' c c' t t' d d' pairs old new ss cs ts ds more u e v f =
    more u e v f
    ∙ ap₂ (λ x y. cond (is_name x y t d u e v f) (Some pairs) (old u e v f)) ss cs
    ∙ ap₂ (λ x y. cond (is_name s' c' x y u e v f) (Some pairs) (old u e v f)) ts ds

pub by_either : {T E P Q R : Type 0} (r : Result T E) → (P → R) → (Q → R) → OnOk r P → OnErr r Q → R
by_either (Ok x) f g p q = f p
by_either (Err x) f g p q = g q
