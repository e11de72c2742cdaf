-- Pieces stand by rising number, and none is empty.
use Rattle.std.proofs.Common.{◌≡◌, ◌≢◌, ℕ, ◌<◌, eqb, Bool, true, List, [], ◌∷◌, ◌++◌, map, sym, subst, arith}
use Rattle.std.specs.List.{filter, flat_map, AllByRecursion}
use Rattle.std.proofs.lemmas.Bool.{eqb-true}
use Rattle.std.proofs.lemmas.List.{map-append}
use Rattle.as_base.specs.declared.answer.Piece.{Piece}
use Rattle.as_base.specs.declared.fragment.Fragment.{Fragment}
use Rattle.as_base.specs.Pieces.{ArePieces}
use Rattle.views.specs.Passed.{rising_once}
use Rattle.views.proofs.ListLaws.{All-by, All-append, All-passed}
use Rattle.views.proofs.RisingLaws.{Rises, Rises-rising_once, Rises-strictly}
use Rattle.result_router.specs.Merge.{text_for, piece_with, piece_for, pieces_of}
use Rattle.result_router.specs.Rising.{with_key, number_of}

-- their numbers
abbrev numbers : List Piece → List ℕ
numbers pieces = map (λ (p : Piece). p.n) pieces

-- each of the fragments is of query k
abbrev AreOf : ℕ → List Fragment → Type 0
AreOf k fs = AllByRecursion (λ f. eqb (number_of f) k ≡ true) fs

-- the number of a piece, if there is one, before others that are above it
number-first : (k : ℕ) (fs : List Fragment) (rest : List ℕ) → AreOf k fs → AllByRecursion (λ j. k < j) rest → Rises rest → Rises (numbers (piece_for fs) ++ rest)
number-first k [] rest is low h = h
number-first k (f ∷ fs) rest is low h = go (text_for (f ∷ fs))
  where
    go : (bytes : List ℕ) → Rises (numbers (piece_with f.n bytes) ++ rest)
    go [] = h
    go (b ∷ bytes) = let same = eqb-true f.n k is.0 in (All-by (λ j. k < j) (λ j. f.n < j) (λ j lower. omega (arith, same, lower)) rest low, h)

number-above : (i k : ℕ) (fs : List Fragment) (rest : List ℕ) → AreOf k fs → i < k → AllByRecursion (λ j. i < j) rest → AllByRecursion (λ j. i < j) (numbers (piece_for fs) ++ rest)
number-above i k [] rest is low h = h
number-above i k (f ∷ fs) rest is low h = go (text_for (f ∷ fs))
  where
    go : (bytes : List ℕ) → AllByRecursion (λ j. i < j) (numbers (piece_with f.n bytes) ++ rest)
    go [] = h
    go (b ∷ bytes) = let same = eqb-true f.n k is.0 in (omega (arith, same, low), h)

not_empty : (n : ℕ) (bytes : List ℕ) → AllByRecursion (λ (p : Piece). p.bytes ≢ []) (piece_with n bytes)
not_empty n [] = tt
not_empty n (b ∷ bytes) = (λ e. cc, tt)

full : (fs : List Fragment) → AllByRecursion (λ (p : Piece). p.bytes ≢ []) (piece_for fs)
full [] = tt
full (f ∷ fs) = not_empty f.n (text_for (f ∷ fs))

module _ (fs : List Fragment) where
  abbrev piece : ℕ → List Piece
  piece k = piece_for (with_key number_of k fs)

  all-above : (i : ℕ) (ks : List ℕ) → AllByRecursion (λ k. i < k) ks → AllByRecursion (λ j. i < j) (numbers (flat_map piece ks))
  all-above i [] h = tt
  all-above i (k ∷ ks) h = subst (AllByRecursion (λ j. i < j)) (sym (map-append (λ (p : Piece). p.n) (piece k) (flat_map piece ks)))
      (number-above i k (with_key number_of k fs) (numbers (flat_map piece ks)) (All-passed (λ f. eqb (number_of f) k) fs) h.0 (all-above i ks h.1))

  rise : (ks : List ℕ) → Rises ks → Rises (numbers (flat_map piece ks))
  rise [] h = tt
  rise (k ∷ ks) h = subst Rises (sym (map-append (λ (p : Piece). p.n) (piece k) (flat_map piece ks)))
      (number-first k (with_key number_of k fs) (numbers (flat_map piece ks)) (All-passed (λ f. eqb (number_of f) k) fs) (all-above k ks h.0) (rise ks h.1))

  each-full : (ks : List ℕ) → AllByRecursion (λ (p : Piece). p.bytes ≢ []) (flat_map piece ks)
  each-full [] = tt
  each-full (k ∷ ks) = All-append (λ (p : Piece). p.bytes ≢ []) (piece k) (flat_map piece ks) (full (with_key number_of k fs)) (each-full ks)

pub are-pieces : (fs : List Fragment) → ArePieces (pieces_of fs)
are-pieces fs =
    let ks = rising_once (map number_of fs) in
    record { rising = Rises-strictly (numbers (pieces_of fs)) (rise fs ks (Rises-rising_once (map number_of fs))); full = each-full fs ks }
