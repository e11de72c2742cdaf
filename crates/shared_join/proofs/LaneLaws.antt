-- What puts and cuts in a lane do to what has met.
use Rattle.std.proofs.Common.{◌≡◌, ℕ, zero, suc, ◌+◌, ◌<◌, ◌&&◌, ◌||◌, not, eqb, Bool, true, false, cond, Option, Some, None, List, [], ◌∷◌, length, refl, sym, ap, subst, ◌∙◌, arith}
use Rattle.std.specs.List.{AllByRecursion}
use Rattle.std.specs.Option.{unwrap_or, is_some}
use Rattle.std.proofs.lemmas.Bool.{eqb-true, eqb-false, eq-eqb, ne_eqb}
use Rattle.std.proofs.lemmas.Option.{none-some}
use Rattle.by_start.specs.declared.Begun.{Begun}
use Rattle.by_start.specs.Order.{begun, look, StartsRise, start_at, thing_at, begun_before, with_begun, without, with_thing}
use Rattle.by_start.proofs.LookLaws.{look-absent, look-insert}
use Rattle.by_start.proofs.OrderLaws.{all-starts}
use Rattle.shared_join.specs.declared.pair.Pair.{Pair}
use Rattle.shared_join.specs.Lanes.{Row, Lane, row_at, row_in, met_at, cut, cut_rows}
use Rattle.shared_join.specs.Joins.{forgotten}

-- ---- cuts

module _ {X : Type 0} where
  pub look-cut : (start c : ℕ) (xs : List (Begun X)) → look c (cut start xs) ≡ cond (eqb c start) None (look c xs)
  look-cut start c [] = none (eqb c start)
    where
      none : (b : Bool) → None ≡ cond {A = Option X} b None None
      none true = refl
      none false = refl
  look-cut start c (x ∷ xs) = go (eqb start x.start) refl (look-cut start c xs)
    where
      gone : (b : Bool) → cond b None (look c xs) ≡ cond b None (cond b (Some x.thing) (look c xs))
      gone true = refl
      gone false = refl

      stays : (b : Bool) → eqb start x.start ≡ false → eqb c x.start ≡ b
          → cond b (Some x.thing) (cond (eqb c start) None (look c xs)) ≡ cond (eqb c start) None (cond b (Some x.thing) (look c xs))
      stays true apart e =
          sym (ap (λ b. cond b None (Some x.thing)) (ne_eqb c start (λ same. eqb-false start x.start apart (sym same ∙ eqb-true c x.start e))))
      stays false apart e = refl

      go : (b : Bool) → eqb start x.start ≡ b → look c (cut start xs) ≡ cond (eqb c start) None (look c xs)
          → look c (cond (not b) (x ∷ cut start xs) (cut start xs)) ≡ cond (eqb c start) None (cond (eqb c x.start) (Some x.thing) (look c xs))
      go true e rest =
          rest ∙ gone (eqb c start) ∙ ap (λ n. cond (eqb c start) None (cond (eqb c n) (Some x.thing) (look c xs))) (eqb-true start x.start e)
      go false e rest = ap (cond (eqb c x.start) (Some x.thing)) rest ∙ stays (eqb c x.start) e refl

  -- where nothing begins there, nothing is cut
  pub cut-none : (start : ℕ) (xs : List (Begun X)) → look start xs ≡ None → cut start xs ≡ xs
  cut-none start [] none = refl
  cut-none start (x ∷ xs) none = go (eqb start x.start) none (cut-none start xs)
    where
      go : (b : Bool) → cond b (Some x.thing) (look start xs) ≡ None → (look start xs ≡ None → cut start xs ≡ xs) → cond (not b) (x ∷ cut start xs) (cut start xs) ≡ x ∷ xs
      go true e rest = absurd (none-some x.thing (sym e))
      go false e rest = ap (λ l. x ∷ l) (rest e)

  -- to take out what begins there is a cut
  pub without-cut : (start i : ℕ) (xs : List (Begun X)) → StartsRise xs → i < length xs → start_at i xs ≡ start → without i xs ≡ cut start xs
  without-cut start i [] rise within at = absurd (omega (arith, within))
  without-cut start zero (x ∷ xs) rise within at =
      sym (ap (λ b. cond (not b) (x ∷ cut start xs) (cut start xs)) (eq-eqb start x.start (sym at))
      ∙ cut-none start xs (look-absent start xs (subst (λ n. AllByRecursion (λ (b : Begun X). n < b.start) xs) at rise.0)))
  without-cut start (suc i) (x ∷ xs) rise within at =
      let later : x.start < start_at i xs = all-starts (λ s. x.start < s) xs rise.0 i (omega (arith, within)) in
      ap (λ l. x ∷ l) (without-cut start i xs rise.1 (omega (arith, within)) at)
      ∙ sym (ap (λ b. cond (not b) (x ∷ cut start xs) (cut start xs)) (ne_eqb start x.start (λ same. absurd (omega (arith, later, at, same)))))

-- ---- a pair of slices more

-- put into a row that is there
pub put-row : (lane new : Lane) (place first second : ℕ) (pairs : List Pair) → start_at place lane ≡ first → look first lane ≡ thing_at place lane → met_at lane first second ≡ None
    → ((c : ℕ) → look c new ≡ cond (eqb c (start_at place lane)) (Some (with_begun second pairs (row_in place lane))) (look c lane))
    → (c d : ℕ) → met_at new c d ≡ cond (eqb c first && eqb d second) (Some pairs) (met_at lane c d)
put-row lane new place first second pairs at found fresh looks c d =
    ap (λ (o : Option Row). look d (unwrap_or o [])) (looks c ∙ ap (λ n. cond (eqb c n) (Some row) (look c lane)) at)
    ∙ go (eqb c first) refl
  where
    row : Row
    row = with_begun second pairs (row_in place lane)

    there : row_in place lane ≡ row_at first lane
    there = ap (λ (o : Option Row). unwrap_or o []) (sym found)

    go : (b : Bool) → eqb c first ≡ b → look d (unwrap_or (cond b (Some row) (look c lane)) []) ≡ cond (b && eqb d second) (Some pairs) (met_at lane c d)
    go true e =
        look-insert second (begun_before second (row_in place lane)) pairs (row_in place lane) (ap (look second) there ∙ fresh) d
        ∙ ap (cond (eqb d second) (Some pairs)) (ap (look d) there ∙ ap (λ n. met_at lane n d) (sym (eqb-true c first e)))
    go false e = refl

-- ---- entries less

pub length-cut_rows : (d k : ℕ) (lane : Lane) → length (cut_rows d k lane) ≡ length lane
length-cut_rows d zero lane = refl
length-cut_rows d (suc k) [] = refl
length-cut_rows d (suc k) (x ∷ lane) = ap suc (length-cut_rows d k lane)

cut-next : (d k : ℕ) (lane : Lane) → k < length lane → with_thing k (cut_rows d k lane) (cut d (row_in k (cut_rows d k lane))) ≡ cut_rows d (suc k) lane
cut-next d k [] within = absurd (omega (arith, within))
cut-next d zero (x ∷ lane) within = refl
cut-next d (suc k) (x ∷ lane) within = ap (λ l. begun x.start (cut d x.thing) ∷ l) (cut-next d k lane (omega (arith, within)))

-- one row more is cut
pub cut-more : (d k : ℕ) (lane was now : Lane) → k < length lane → was ≡ cut_rows d k lane → now ≡ with_thing k was (cut d (row_in k was)) → now ≡ cut_rows d (k + 1) lane
cut-more d k lane was now within before is =
    let on : suc k ≡ k + 1 = omega arith in
    is ∙ ap (λ (l : Lane). with_thing k l (cut d (row_in k l))) before ∙ cut-next d k lane within ∙ ap (λ n. cut_rows d n lane) on

row_at-cut : (d c : ℕ) (lane : Lane) → row_at c (cut_rows d (length lane) lane) ≡ cut d (row_at c lane)
row_at-cut d c [] = refl
row_at-cut d c (x ∷ lane) = go (eqb c x.start) (row_at-cut d c lane)
  where
    go : (b : Bool) → row_at c (cut_rows d (length lane) lane) ≡ cut d (row_at c lane)
        → unwrap_or (cond b (Some (cut d x.thing)) (look c (cut_rows d (length lane) lane))) [] ≡ cut d (unwrap_or (cond b (Some x.thing) (look c lane)) [])
    go true rest = refl
    go false rest = rest

-- ---- a slice less

met-cut : (start c d : ℕ) (lane : Lane) → met_at (cut start lane) c d ≡ cond (eqb c start) None (met_at lane c d)
met-cut start c d lane = ap (λ (o : Option Row). look d (unwrap_or o [])) (look-cut start c lane) ∙ go (eqb c start)
  where
    go : (b : Bool) → look d (unwrap_or (cond b None (look c lane)) []) ≡ cond b None (met_at lane c d)
    go true = refl
    go false = refl

met-cut_rows : (start c d : ℕ) (lane : Lane) → met_at (cut_rows start (length lane) lane) c d ≡ cond (eqb d start) None (met_at lane c d)
met-cut_rows start c d lane = ap (look d) (row_at-cut start c lane) ∙ look-cut start d (row_at c lane)

-- of a slice on either side
pub met-forgotten : (is_first is_second : Bool) (start c d : ℕ) (lane : Lane)
    → met_at (forgotten is_first is_second start lane) c d ≡ cond ((is_first && eqb c start) || (is_second && eqb d start)) None (met_at lane c d)
met-forgotten true true start c d lane = met-cut_rows start c d (cut start lane) ∙ ap (cond (eqb d start) None) (met-cut start c d lane) ∙ go (eqb d start) (eqb c start)
  where
    go : (a b : Bool) → cond a None (cond b None (met_at lane c d)) ≡ cond (b || a) None (met_at lane c d)
    go true true = refl
    go true false = refl
    go false true = refl
    go false false = refl
met-forgotten true false start c d lane = met-cut start c d lane ∙ go (eqb c start)
  where
    go : (b : Bool) → cond b None (met_at lane c d) ≡ cond (b || false) None (met_at lane c d)
    go true = refl
    go false = refl
met-forgotten false true start c d lane = met-cut_rows start c d lane
met-forgotten false false start c d lane = refl

-- ---- what stands at a place

pub there-is : {X : Type 0} (i : ℕ) (xs : List (Begun X)) → i < length xs → is_some (thing_at i xs) ≡ true
there-is i [] within = absurd (omega (arith, within))
there-is zero (x ∷ xs) within = refl
there-is (suc i) (x ∷ xs) within = there-is i xs (omega (arith, within))
