-- How many pairs there are, counted row by row, is how many are kept of all names; and each name that has met is listed once.
use Rattle.std.proofs.Common.{◌≡◌, ℕ, zero, suc, ◌+◌, ◌<◌, ◌&&◌, eqb, min, Bool, true, false, cond, Option, Some, None, List, [], ◌∷◌, ◌++◌, map, take, length, get_or, refl, sym, ap, ap₂, subst, ◌∙◌, true≢false, arith}
use Rattle.std.specs.List.{AllByRecursion, flat_map, sum_by, count_by, range_with_len}
use Rattle.std.specs.Option.{unwrap_or, is_some}
use Rattle.std.proofs.lemmas.Bool.{eqb-true, eq-eqb, ne_eqb}
use Rattle.std.proofs.lemmas.Int.{clamps}
use Rattle.std.proofs.lemmas.List.{take_all, take_more}
use Rattle.std.proofs.lemmas.Simd.{pick_l-range_with_len}
use Rattle.std.proofs.lemmas.List.Sums.{sum_by-cons, sum_by_more}
use Rattle.as_base.specs.declared.stream.StreamId.{StreamId}
use Rattle.as_base.specs.declared.stream.StreamId.TheVariants.{A, B, C, D}
use Rattle.as_base.specs.Stream.{place_of, streams}
use Rattle.views.proofs.ListLaws.{All-by, All-both, All-push}
use Rattle.by_start.specs.declared.Begun.{Begun}
use Rattle.by_start.specs.Order.{look, StartsRise}
use Rattle.by_start.proofs.LookLaws.{look-absent}
use Rattle.shared_join.specs.declared.joins.Joins.{Joins}
use Rattle.shared_join.specs.declared.pair.Pair.{Pair}
use Rattle.shared_join.specs.Lanes.{Row, Lane, row_at, met_at}
use Rattle.shared_join.specs.Joins.{lane_at, lane_place, lane_of, has_met, kept_in, met_of}
use Rattle.shared_join.specs.Names.{Name, name, names_in_row, names_in, names_of, is_named, number_of, row_pairs, lane_pairs, IsInOrder}
use Rattle.shared_join.proofs.AlikeLaws.{sum_by-same, sum_by-none, sum_by-flat_map}

-- ---- sums that stay at a greatest number

pub counted-more : {X : Type 0} (f : X → ℕ) (xs : List X) (k : ℕ) (x : X) (most was now : ℕ) → k < length xs → get_or xs k x ≡ x
    → was ≡ min (sum_by f (take k xs)) most → now ≡ min (was + f x) most → now ≡ min (sum_by f (take (k + 1) xs)) most
counted-more f xs k x most was now within at before more =
    let one = sum_by_more f xs k x within in
    let both : min (was + f x) most ≡ min (sum_by f (take k xs) + f x) most = omega (arith, clamps, before) in
    more ∙ both ∙ ap (λ m. min m most) (sym (one ∙ ap (λ y. sum_by f (take k xs) + f y) at))

pub min-twice : (a n most : ℕ) → min (a + min n most) most ≡ min (a + n) most
min-twice a n most = omega (arith, clamps)

pub all-more : {X : Type 0} (P : X → Type 0) (xs : List X) (k : ℕ) (x : X) → k < length xs → get_or xs k x ≡ x → AllByRecursion P (take k xs) → P x → AllByRecursion P (take (k + 1) xs)
all-more P xs k x within at h p =
    subst (AllByRecursion P) (sym (take_more xs k x within ∙ ap (λ y. take k xs ++ y ∷ []) at)) (All-push P (take k xs) x h p)

sum_by-map : {X Y : Type 0} (f : Y → ℕ) (g : X → Y) (xs : List X) → sum_by f (map g xs) ≡ sum_by (λ x. f (g x)) xs
sum_by-map f g [] = refl
sum_by-map f g (x ∷ xs) = sum_by-cons f (g x) (map g xs) ∙ ap (λ n. f (g x) + n) (sum_by-map f g xs) ∙ sym (sum_by-cons (λ x. f (g x)) x xs)

sum_by-each : {X : Type 0} (f g : X → ℕ) (xs : List X) → AllByRecursion (λ x. f x ≡ g x) xs → sum_by f xs ≡ sum_by g xs
sum_by-each f g [] h = refl
sum_by-each f g (x ∷ xs) h = sum_by-cons f x xs ∙ ap₂ (λ a b. a + b) h.0 (sum_by-each f g xs h.1) ∙ sym (sum_by-cons g x xs)

-- ---- look-ups

eqb-turn : (a b : ℕ) → eqb a b ≡ eqb b a
eqb-turn a b = go (eqb a b) refl
  where
    go : (x : Bool) → eqb a b ≡ x → x ≡ eqb b a
    go true e = sym (eq-eqb b a (sym (eqb-true a b e)))
    go false e = sym (ne_eqb b a (λ same. true≢false (sym (eq-eqb a b (sym same)) ∙ e)))

module _ {X : Type 0} where
  -- what is behind the first begins later, so that it is not looked up at the first's start
  behind : (x : Begun X) (xs ys : List (Begun X)) → AllByRecursion (λ (b : Begun X). x.start < b.start) ys → AllByRecursion (λ (b : Begun X). look b.start xs ≡ Some b.thing) ys
      → AllByRecursion (λ (b : Begun X). look b.start (x ∷ xs) ≡ Some b.thing) ys
  behind x xs [] later h = tt
  behind x xs (y ∷ ys) later h = (
    ap (λ b. cond b (Some x.thing) (look y.start xs)) (ne_eqb y.start x.start (λ same. let l = later.0 in absurd (omega (arith, l, same)))) ∙ h.0,
    behind x xs ys later.1 h.1,
  )

  -- each start looks up its thing
  look-each : (xs : List (Begun X)) → StartsRise xs → AllByRecursion (λ (b : Begun X). look b.start xs ≡ Some b.thing) xs
  look-each [] rise = tt
  look-each (x ∷ xs) rise = (ap (λ b. cond b (Some x.thing) (look x.start xs)) (eq-eqb x.start x.start refl), behind x xs xs rise.0 (look-each xs rise.1))

  abbrev picked : (X → ℕ) → Option X → ℕ
  picked g None = 0
  picked g (Some x) = g x

  -- of all things one begins there at most
  look-sum : (g : X → ℕ) (c : ℕ) (xs : List (Begun X)) → StartsRise xs → sum_by (λ (b : Begun X). cond (eqb b.start c) (g b.thing) 0) xs ≡ picked g (look c xs)
  look-sum g c [] rise = refl
  look-sum g c (x ∷ xs) rise =
      sum_by-cons (λ (b : Begun X). cond (eqb b.start c) (g b.thing) 0) x xs
      ∙ ap₂ (λ b n. cond b (g x.thing) 0 + n) (eqb-turn x.start c) (look-sum g c xs rise.1)
      ∙ go (eqb c x.start) refl
    where
      go : (b : Bool) → eqb c x.start ≡ b → cond b (g x.thing) 0 + picked g (look c xs) ≡ picked g (cond b (Some x.thing) (look c xs))
      go true e =
          let none : look c xs ≡ None = look-absent c xs (subst (λ n. AllByRecursion (λ (b : Begun X). n < b.start) xs) (sym (eqb-true c x.start e)) rise.0) in
          ap (λ o. g x.thing + picked g o) none ∙ omega arith
      go false e = omega arith

-- ---- how many pairs

-- what a name counts
abbrev weight : Joins → Name → ℕ
weight j n = length (kept_in j n.first n.from n.second n.to)

order-at : (lanes : List Lane) → AllByRecursion IsInOrder lanes → (k : ℕ) → IsInOrder (lane_at lanes k)
order-at [] h k = record { rise = tt; rows = tt }
order-at (x ∷ lanes) h zero = h.0
order-at (x ∷ lanes) h (suc k) = order-at lanes h.1 k

number-row : (j : Joins) (s t : StreamId) (c : ℕ) (row : Row) → row_at c (lane_of j s t) ≡ row → StartsRise row → sum_by (weight j) (names_in_row s c t row) ≡ row_pairs row
unfolding met_of
number-row j s t c row is rise =
    sum_by-map (weight j) (λ (e : Begun (List Pair)). name s c t e.start) row
    ∙ sum_by-each (λ (e : Begun (List Pair)). length (kept_in j s c t e.start)) (λ (e : Begun (List Pair)). length e.thing) row
    (All-by (λ (e : Begun (List Pair)). look e.start row ≡ Some e.thing) (λ (e : Begun (List Pair)). length (kept_in j s c t e.start) ≡ length e.thing)
    (λ e found. ap (λ (r : Row). length (unwrap_or (look e.start r) [])) is ∙ ap (λ (o : Option (List Pair)). length (unwrap_or o [])) found) row (look-each row rise))

number-lane : (j : Joins) (s t : StreamId) → IsInOrder (lane_of j s t) → sum_by (weight j) (names_in s t (lane_of j s t)) ≡ lane_pairs (lane_of j s t)
number-lane j s t order =
    let lane : Lane = lane_of j s t in
    sum_by-flat_map (weight j) (λ (r : Begun Row). names_in_row s r.start t r.thing) lane
    ∙ sum_by-each (λ (r : Begun Row). sum_by (weight j) (names_in_row s r.start t r.thing)) (λ (r : Begun Row). row_pairs r.thing) lane
    (All-by (λ (r : Begun Row). (look r.start lane ≡ Some r.thing) × StartsRise r.thing) (λ (r : Begun Row). sum_by (weight j) (names_in_row s r.start t r.thing) ≡ row_pairs r.thing)
    (λ r h. number-row j s t r.start r.thing (ap (λ (o : Option Row). unwrap_or o []) h.0) h.1) lane
    (All-both (λ (r : Begun Row). look r.start lane ≡ Some r.thing) (λ (r : Begun Row). StartsRise r.thing) lane (look-each lane order.rise) order.rows))

-- two streams after another give each place once
by-streams : (f : ℕ → ℕ) → sum_by (λ s. sum_by (λ t. f (lane_place s t)) streams) streams ≡ sum_by f (range_with_len 0 16)
by-streams f = omega arith

by-places : (f : Lane → ℕ) (lanes : List Lane) → length lanes ≡ 16 → sum_by f lanes ≡ sum_by (λ k. f (lane_at lanes k)) (range_with_len 0 16)
by-places f lanes long =
    ap (sum_by f) (sym (pick_l-range_with_len [] lanes 0 (length lanes) (omega arith) ∙ take_all (length lanes) lanes (omega arith)))
    ∙ sum_by-map f (λ k. get_or lanes k []) (range_with_len 0 (length lanes))
    ∙ ap (λ n. sum_by (λ k. f (lane_at lanes k)) (range_with_len 0 n)) long

-- all that is counted is all that is kept
pub number-is : (j : Joins) → length j.lanes ≡ 16 → AllByRecursion IsInOrder j.lanes → sum_by lane_pairs j.lanes ≡ number_of j
unfolding names_of
number-is j long order =
    by-places lane_pairs j.lanes long
    ∙ sym (by-streams (λ k. lane_pairs (lane_at j.lanes k)))
    ∙ sym (sum_by-flat_map (weight j) (λ s. flat_map (λ t. names_in s t (lane_of j s t)) streams) streams
    ∙ sum_by-same (λ s. sum_by (weight j) (flat_map (λ t. names_in s t (lane_of j s t)) streams)) (λ s. sum_by (λ t. lane_pairs (lane_of j s t)) streams)
    (λ s. sum_by-flat_map (weight j) (λ t. names_in s t (lane_of j s t)) streams
    ∙ sum_by-same (λ t. sum_by (weight j) (names_in s t (lane_of j s t))) (λ t. lane_pairs (lane_of j s t)) (λ t. number-lane j s t (order-at j.lanes order (lane_place s t))) streams) streams)

-- ---- each name once

count-row : (a b w : Bool) (d : ℕ) (row : Row) → StartsRise row
    → sum_by (λ (e : Begun (List Pair)). cond ((a && b) && (w && eqb e.start d)) 1 0) row ≡ cond b (cond (a && w) (cond (is_some (look d row)) 1 0) 0) 0
count-row true true true d row rise = look-sum (λ _. 1) d row rise ∙ go (look d row)
  where
    go : (o : Option (List Pair)) → picked (λ _. 1) o ≡ cond (is_some o) 1 0
    go None = refl
    go (Some x) = refl
count-row true true false d row rise = sum_by-none row
count-row true false w d row rise = sum_by-none row
count-row false true w d row rise = sum_by-none row
count-row false false w d row rise = sum_by-none row

count-lane : (s t u v : StreamId) (c d : ℕ) (lane : Lane) → IsInOrder lane
    → count_by (is_named s c t d) (names_in u v lane)
    ≡ cond (eqb (place_of u) (place_of s)) (cond (eqb (place_of v) (place_of t)) (cond (is_some (met_at lane c d)) 1 0) 0) 0
count-lane s t u v c d lane order =
    sum_by-flat_map (λ n. cond (is_named s c t d n) 1 0) (λ (r : Begun Row). names_in_row u r.start v r.thing) lane
    ∙ sum_by-each (λ (r : Begun Row). count_by (is_named s c t d) (names_in_row u r.start v r.thing)) (λ (r : Begun Row). cond (eqb r.start c) (there r.thing) 0) lane
    (All-by (λ (r : Begun Row). StartsRise r.thing) (λ (r : Begun Row). count_by (is_named s c t d) (names_in_row u r.start v r.thing) ≡ cond (eqb r.start c) (there r.thing) 0)
    (λ r rise. sum_by-map (λ n. cond (is_named s c t d n) 1 0) (λ (e : Begun (List Pair)). name u r.start v e.start) r.thing ∙ count-row a (eqb r.start c) w d r.thing rise) lane order.rows)
    ∙ look-sum there c lane order.rise
    ∙ go a w (look c lane)
  where
    a : Bool
    a = eqb (place_of u) (place_of s)

    w : Bool
    w = eqb (place_of v) (place_of t)

    there : Row → ℕ
    there row = cond (a && w) (cond (is_some (look d row)) 1 0) 0

    go : (x y : Bool) (o : Option Row)
        → picked (λ row. cond (x && y) (cond (is_some (look d row)) 1 0) 0) o ≡ cond x (cond y (cond (is_some (look d (unwrap_or o []))) 1 0) 0) 0
    go true true None = refl
    go true true (Some r) = refl
    go true false None = refl
    go true false (Some r) = refl
    go false y None = refl
    go false y (Some r) = refl

-- of all streams one is this one
pick-stream : (s : StreamId) (g : StreamId → ℕ) → sum_by (λ u. cond (eqb (place_of u) (place_of s)) (g u) 0) streams ≡ g s
pick-stream A g = omega arith
pick-stream B g = omega arith
pick-stream C g = omega arith
pick-stream D g = omega arith

-- a name is listed once where its slices have met, and else it is not
pub listed-once : (j : Joins) → AllByRecursion IsInOrder j.lanes → (s : StreamId) (c : ℕ) (t : StreamId) (d : ℕ)
    → count_by (is_named s c t d) (names_of j) ≡ cond (has_met j s c t d) 1 0
unfolding names_of met_of
listed-once j order s c t d =
    sum_by-flat_map (λ n. cond (is_named s c t d n) 1 0) (λ u. flat_map (λ v. names_in u v (lane_of j u v)) streams) streams
    ∙ sum_by-same (λ u. count_by (is_named s c t d) (flat_map (λ v. names_in u v (lane_of j u v)) streams)) (λ u. cond (eqb (place_of u) (place_of s)) (met u t) 0) inner streams
    ∙ pick-stream s (λ u. met u t)
  where
    met : StreamId → StreamId → ℕ
    met u v = cond (has_met j u c v d) 1 0

    either : (b : Bool) (g : StreamId → ℕ) → sum_by (λ v. cond b (cond (eqb (place_of v) (place_of t)) (g v) 0) 0) streams ≡ cond b (g t) 0
    either true g = pick-stream t g
    either false g = refl

    inner : (u : StreamId) → count_by (is_named s c t d) (flat_map (λ v. names_in u v (lane_of j u v)) streams) ≡ cond (eqb (place_of u) (place_of s)) (met u t) 0
    inner u =
        sum_by-flat_map (λ n. cond (is_named s c t d n) 1 0) (λ v. names_in u v (lane_of j u v)) streams
        ∙ sum_by-same (λ v. count_by (is_named s c t d) (names_in u v (lane_of j u v))) (λ v. cond (eqb (place_of u) (place_of s)) (cond (eqb (place_of v) (place_of t)) (met u v) 0) 0)
        (λ v. count-lane s t u v c d (lane_of j u v) (order-at j.lanes order (lane_place u v))) streams
        ∙ either (eqb (place_of u) (place_of s)) (met u)
