-- Columns of intervals, and the bounds that they are together.
use Rattle.std.proofs.Common.{rules, subst, FitsSigned, to_z, of_z, w64, pos, ◌≡◌, ℕ, zero, suc, ◌<◌, Bool, true, false, cond, eqb, ℤ, List, [], ◌∷◌, length, get_or, set, replicate, refl, sym, ap, ◌∙◌, arith, length-set, get_or-set_same, get_or-set_other, ext_get_or, ne_eqb, ⊎_elim}
use Rattle.std.specs.Simd.Lanes.{zip2, Each1}
use Rattle.std.proofs.lemmas.Bool.{cases_eq, cond-true, cond-false, eq-eqb}
use Rattle.std.proofs.lemmas.List.{get_or-replicate, length-replicate}
use Rattle.std.proofs.lemmas.List.FromFn.{length-map-range_with_len, get_or-map-range_with_len}
use Rattle.std.proofs.lemmas.Simd.{length-zip2, get_or-zip2, Each1-replicate, Each1-get_or}
use Rattle.std.proofs.lemmas.Int.{to_z-of_z}
use Rattle.as_base.specs.Query.{at}
use Rattle.as_base.specs.declared.query.Bounds.{Bounds}
use Rattle.box_lanes.specs.Parts.{Interval, nothing, intervals, IsField, box_of, empty, boxes_of, AreColumns}

set-zip2 : {X Y Z : Type 0} (f : X → Y → Z) (xs : List X) (ys : List Y) (i : ℕ) (x : X) (y : Y) → set (zip2 f xs ys) i (f x y) ≡ zip2 f (set xs i x) (set ys i y)
set-zip2 f [] ys i x y = refl
set-zip2 f (a ∷ xs) [] zero x y = refl
set-zip2 f (a ∷ xs) [] (suc i) x y = refl
set-zip2 f (a ∷ xs) (b ∷ ys) zero x y = refl
set-zip2 f (a ∷ xs) (b ∷ ys) (suc i) x y = ap (λ t. f a b ∷ t) (set-zip2 f xs ys i x y)

-- ---- one column

pub length-intervals : (low high : List ℤ) → length low ≡ 64 → length high ≡ 64 → length (intervals low high) ≡ 64
unfolding intervals
length-intervals low high l h = length-zip2 _ low high (l ∙ sym h) ∙ l

pub intervals-set : (low high : List ℤ) (i : ℕ) (x y : ℤ) → intervals (set low i x) (set high i y) ≡ set (intervals low high) i (record { low = x; high = y })
unfolding intervals
intervals-set low high i x y = sym (set-zip2 (λ (l h : ℤ). record { low = l; high = h }) low high i x y)

pub get_or-intervals : (low high : List ℤ) (i : ℕ) (d : ℤ) → length low ≡ 64 → length high ≡ 64 → i < 64 → get_or (intervals low high) i nothing ≡ record { low = get_or low i d; high = get_or high i d }
unfolding intervals
get_or-intervals low high i d l h below = get_or-zip2 (λ (a b : ℤ). record { low = a; high = b }) low high i d d nothing (omega arith) (omega arith)

pub intervals-new : (z : ℤ) → intervals (replicate 64 z) (replicate 64 z) ≡ replicate 64 (record { low = z; high = z })
unfolding intervals
intervals-new z = refl

zero_fits : FitsSigned w64 (pos 0)
zero_fits = search rules

pub IsField-new : IsField (replicate 64 (pos 0)) (replicate 64 (pos 0))
IsField-new = record {
  low_size = length-replicate 64 (pos 0);
  high_size = length-replicate 64 (pos 0);
  low_fits = Each1-replicate (λ z. FitsSigned w64 z) 64 (pos 0) zero_fits;
  high_fits = Each1-replicate (λ z. FitsSigned w64 z) 64 (pos 0) zero_fits;
}

Each1-set : (P : ℤ → Type 0) (xs : List ℤ) (k : ℕ) (v : ℤ) → P v → Each1 P xs → Each1 P (set xs k v)
Each1-set P [] k v p h = tt
Each1-set P (x ∷ xs) zero v p h = (p, h.1)
Each1-set P (x ∷ xs) (suc k) v p h = (h.0, Each1-set P xs k v p h.1)

pub IsField-set : (low high : List ℤ) (i : ℕ) (x y : ℤ) → FitsSigned w64 x → FitsSigned w64 y → IsField low high → IsField (set low i (to_z w64 (of_z w64 x))) (set high i (to_z w64 (of_z w64 y)))
IsField-set low high i x y f g is =
    let P : ℤ → Type 0 = λ z. FitsSigned w64 z in
    record {
      low_size = length-set low i (to_z w64 (of_z w64 x)) ∙ is.low_size;
      high_size = length-set high i (to_z w64 (of_z w64 y)) ∙ is.high_size;
      low_fits = Each1-set P low i (to_z w64 (of_z w64 x)) (subst P (sym (to_z-of_z w64 x f)) f) is.low_fits;
      high_fits = Each1-set P high i (to_z w64 (of_z w64 y)) (subst P (sym (to_z-of_z w64 y g)) g) is.high_fits;
    }

-- the numbers of a field come back whole
pub low_whole : (low high : List ℤ) (i : ℕ) → IsField low high → i < 64 → to_z w64 (of_z w64 (at low i)) ≡ at low i
low_whole low high i is h = to_z-of_z w64 (at low i) (Each1-get_or (λ z. FitsSigned w64 z) low i (pos 0) (omega (arith, is.low_size)) is.low_fits)

pub high_whole : (low high : List ℤ) (i : ℕ) → IsField low high → i < 64 → to_z w64 (of_z w64 (at high i)) ≡ at high i
high_whole low high i is h = to_z-of_z w64 (at high i) (Each1-get_or (λ z. FitsSigned w64 z) high i (pos 0) (omega (arith, is.high_size)) is.high_fits)

-- ---- five columns

abbrev box_at : List Interval → List Interval → List Interval → List Interval → List Interval → ℕ → Bounds
box_at ks ps bs cs ds i = box_of (get_or ks i nothing) (get_or ps i nothing) (get_or bs i nothing) (get_or cs i nothing) (get_or ds i nothing)

pub length-boxes_of : (ks ps bs cs ds : List Interval) → length (boxes_of ks ps bs cs ds) ≡ 64
unfolding boxes_of
length-boxes_of ks ps bs cs ds = length-map-range_with_len (box_at ks ps bs cs ds) 0 64

pub get_or-boxes_of : (ks ps bs cs ds : List Interval) (i : ℕ) → i < 64 → get_or (boxes_of ks ps bs cs ds) i empty ≡ box_of (get_or ks i nothing) (get_or ps i nothing) (get_or bs i nothing) (get_or cs i nothing) (get_or ds i nothing)
unfolding boxes_of
get_or-boxes_of ks ps bs cs ds i h = get_or-map-range_with_len (box_at ks ps bs cs ds) 0 64 i i empty h (omega arith)

get_or-set : {X : Type 0} (xs : List X) (i j : ℕ) (x d : X) → length xs ≡ 64 → i < 64 → get_or (set xs i x) j d ≡ cond (eqb j i) x (get_or xs j d)
get_or-set xs i j x d long h = ⊎_elim
    (λ e. ap (λ n. get_or (set xs i x) n d) e ∙ get_or-set_same xs i x d (omega arith) ∙ sym (cond-true (eqb j i) x (get_or xs j d) (eq-eqb j i e)))
    (λ ne. get_or-set_other xs i j x d ne ∙ sym (cond-false (eqb j i) x (get_or xs j d) (ne_eqb j i ne)))
    (cases_eq j i)

either_box : (on : Bool) (k a b c d k' a' b' c' d' : Interval) → box_of (cond on k k') (cond on a a') (cond on b b') (cond on c c') (cond on d d') ≡ cond on (box_of k a b c d) (box_of k' a' b' c' d')
either_box true k a b c d k' a' b' c' d' = refl
either_box false k a b c d k' a' b' c' d' = refl

pub boxes_of-set : (ks ps bs cs ds : List Interval) (i : ℕ) (k a b c d : Interval) → AreColumns ks ps bs cs ds → i < 64 → boxes_of (set ks i k) (set ps i a) (set bs i b) (set cs i c) (set ds i d) ≡ set (boxes_of ks ps bs cs ds) i (box_of k a b c d)
boxes_of-set ks ps bs cs ds i k a b c d are h =
    let long = length-boxes_of ks ps bs cs ds in
    let same = length-boxes_of (set ks i k) (set ps i a) (set bs i b) (set cs i c) (set ds i d) in
    ext_get_or empty (boxes_of (set ks i k) (set ps i a) (set bs i b) (set cs i c) (set ds i d)) (set (boxes_of ks ps bs cs ds) i (box_of k a b c d)) (same ∙ sym (length-set _ _ _ ∙ long)) (λ j below.
    let low : j < 64 = omega (arith, same) in
    get_or-boxes_of (set ks i k) (set ps i a) (set bs i b) (set cs i c) (set ds i d) j low
    ∙ (λ t. box_of (get_or-set ks i j k nothing are.keys h t) (get_or-set ps i j a nothing are.first h t) (get_or-set bs i j b nothing are.second h t) (get_or-set cs i j c nothing are.third h t) (get_or-set ds i j d nothing are.fourth h t))
    ∙ either_box (eqb j i) k a b c d (get_or ks j nothing) (get_or ps j nothing) (get_or bs j nothing) (get_or cs j nothing) (get_or ds j nothing)
    ∙ ap (cond (eqb j i) (box_of k a b c d)) (sym (get_or-boxes_of ks ps bs cs ds j low))
    ∙ sym (get_or-set (boxes_of ks ps bs cs ds) i j (box_of k a b c d) empty long h))

pub boxes_of-new : boxes_of (replicate 64 nothing) (replicate 64 nothing) (replicate 64 nothing) (replicate 64 nothing) (replicate 64 nothing) ≡ replicate 64 empty
boxes_of-new =
    let n : List Interval = replicate 64 nothing in
    let long = length-boxes_of n n n n n in
    ext_get_or empty (boxes_of n n n n n) (replicate 64 empty) (long ∙ sym (length-replicate 64 empty)) (λ i h.
    let low : i < 64 = omega (arith, long) in
    let here : get_or n i nothing ≡ nothing = get_or-replicate 64 i nothing nothing low in
    get_or-boxes_of n n n n n i low ∙ ap (λ x. box_of x x x x x) here ∙ sym (get_or-replicate 64 i empty empty low))

five_are : (zs : List ℤ) → length zs ≡ 5 → at zs 0 ∷ at zs 1 ∷ at zs 2 ∷ at zs 3 ∷ at zs 4 ∷ [] ≡ zs
five_are [] e = absurd (omega arith)
five_are (a ∷ []) e = absurd (omega arith)
five_are (a ∷ b ∷ []) e = absurd (omega arith)
five_are (a ∷ b ∷ c ∷ []) e = absurd (omega arith)
five_are (a ∷ b ∷ c ∷ d ∷ []) e = absurd (omega arith)
five_are (a ∷ b ∷ c ∷ d ∷ f ∷ []) e = refl
five_are (a ∷ b ∷ c ∷ d ∷ f ∷ g ∷ zs) e = absurd (omega arith)

-- the interval that bounds have for the field at this place
abbrev pub part : Bounds → ℕ → Interval
part b i = record { low = at b.lo i; high = at b.hi i }

pub box_of-parts : (b : Bounds) → length b.lo ≡ 5 → length b.hi ≡ 5 → box_of (part b 0) (part b 1) (part b 2) (part b 3) (part b 4) ≡ b
box_of-parts b l h = λ t. record { lo = five_are b.lo l t; hi = five_are b.hi h t }
