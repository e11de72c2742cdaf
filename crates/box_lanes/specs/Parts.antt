-- What the columns are made of: the intervals of a field, the bounds of 64 slots, and which of these are set.
use Rattle.std.specs.Prelude.{◌≡◌, ℕ, FitsSigned, ℤ, pos, negsuc, List, [], ◌∷◌, map, length, get_or, Bool, if◌then◌else◌, Option, Some, None}
use Rattle.std.specs.Int.{w64}
use Rattle.std.specs.List.{flat_map, range_with_len}
use Rattle.std.specs.Simd.Lanes.{zip2, Each1}
use Rattle.as_base.specs.Query.{is_within}
use Rattle.as_base.specs.declared.query.Bounds.{Bounds}
use Rattle.queryset_lanes.specs.Words.{word_slots}

-- the least and the greatest number of a field
pub record Interval : Type 0 where
  pub low : ℤ
  pub high : ℤ

-- an interval, for a place past the end
abbrev pub nothing : Interval
nothing = record { low = pos 0; high = pos 0 }

-- the number is in the interval
abbrev pub is_inside : Interval → ℤ → Bool
is_inside bounds value = is_within bounds.low value bounds.high

-- the intervals of these least and greatest numbers
unfoldable pub intervals : List ℤ → List ℤ → List Interval
intervals lows highs = zip2 (λ low high. record { low = low; high = high }) lows highs

-- 64 least and 64 greatest numbers, of 64 bits each
pub record IsField (lows highs : List ℤ) : Type 0 where
  pub low_size : length lows ≡ 64
  pub high_size : length highs ≡ 64
  pub low_fits : Each1 (λ z. FitsSigned w64 z) lows
  pub high_fits : Each1 (λ z. FitsSigned w64 z) highs

-- a lane of ones, or of zeros
abbrev pub lane : Bool → ℤ
lane on = if on then negsuc 0 else pos 0

-- the bounds with these intervals
abbrev pub box_of : Interval → Interval → Interval → Interval → Interval → Bounds
box_of k a b c d = record {
  lo = k.low ∷ a.low ∷ b.low ∷ c.low ∷ d.low ∷ [];
  hi = k.high ∷ a.high ∷ b.high ∷ c.high ∷ d.high ∷ [];
}

-- what stands for the bounds of a slot that has none
abbrev pub empty : Bounds
empty = box_of nothing nothing nothing nothing nothing

-- five columns of 64 intervals
pub record AreColumns (ks ps bs cs ds : List Interval) : Type 0 where
  pub keys : length ks ≡ 64
  pub first : length ps ≡ 64
  pub second : length bs ≡ 64
  pub third : length cs ≡ 64
  pub fourth : length ds ≡ 64

-- the bounds of 64 slots
unfoldable pub boxes_of : List Interval → List Interval → List Interval → List Interval → List Interval → List Bounds
boxes_of ks ps bs cs ds = map (λ i. box_of (get_or ks i nothing) (get_or ps i nothing) (get_or bs i nothing) (get_or cs i nothing) (get_or ds i nothing)) (range_with_len 0 64)

-- the bounds of the slots that are set
unfoldable pub set_boxes : ℕ → List Bounds → List (Option Bounds)
set_boxes word boxes = zip2 (λ on b. if on then Some b else None) (word_slots word) boxes

-- the slots of blocks, one after another
unfoldable pub joined : List (List (Option Bounds)) → List (Option Bounds)
joined blocks = flat_map (λ block. block) blocks

-- eight blocks of 64 slots
pub record IsBlocks (blocks : List (List (Option Bounds))) : Type 0 where
  pub eight : length blocks ≡ 8
  pub each : Each1 (λ block. length block ≡ 64) blocks
