-- The slots that hold a value of one field, by the values at which these change.
use Rattle.std.specs.Prelude.{◌≡◌, ◌⊎◌, ℕ, ℤ, ◌<ℤ◌, ◌+ℤ◌, pos, int_le, int_lt, List, [], ◌∷◌, replicate, slice_set, Bool, true, false, if◌then◌else◌, FitsSigned}
use Rattle.std.specs.Int.{w64}
use Rattle.std.specs.List.Sorted.{IsPartitionPoint}
use Rattle.as_base.specs.Query.{is_within, lowest, highest}
use Rattle.box_lanes.specs.declared.start.Start.{Start}

-- the last start that is not after the value, of this one and those that follow it
abbrev pub last_of : Start → List Start → ℤ → Start
last_of s [] value = s
last_of s (t ∷ ts) value = if int_le t.low value then last_of t ts value else s

-- the last start that is not after the value
abbrev pub last_start : List Start → ℤ → Start
last_start [] value = record { low = lowest; set = [] }
last_start (s ∷ ss) value = last_of s ss value

-- the slots that hold the value
abbrev pub look : List Start → ℤ → List Bool
look starts value = (last_start starts value).set

-- the starts rise, all above the number
abbrev pub Rises : ℤ → List Start → Type 0
Rises z [] = Unit {0}
Rises z (s ∷ ss) = (z <ℤ s.low) × Rises s.low ss

-- the starts rise from the least number of a field on
abbrev pub IsTable : List Start → Type 0
IsTable [] = ⊥
IsTable (s ∷ ss) = (s.low ≡ lowest) × Rises s.low ss

-- no slot holds any value
abbrev pub empty_table : List Start
empty_table = record { low = lowest; set = replicate 512 false } ∷ []

-- the first starts, so many, are before the value, and the others are not
abbrev pub IsBefore : ℤ → List Start → ℕ → Type 0
IsBefore value starts count =
    IsPartitionPoint (λ (s : Start). int_lt s.low value ≡ true) (λ (s : Start). int_lt s.low value ≡ false) starts count

-- the first starts, so many, are not after the value, and the others are
abbrev pub IsUntil : ℤ → List Start → ℕ → Type 0
IsUntil value starts count =
    IsPartitionPoint (λ (s : Start). int_le s.low value ≡ true) (λ (s : Start). int_le s.low value ≡ false) starts count

-- the number is a start
abbrev pub HasStart : ℤ → List Start → Type 0
HasStart z [] = ⊥
HasStart z (s ∷ ss) = (s.low ≡ z) ⊎ HasStart z ss

-- the number was made a start, and each value has the slots that it had
pub record IsCut (z : ℤ) (old new : List Start) : Type 0 where
  pub here : HasStart z new
  pub kept : (y : ℤ) → HasStart y old → HasStart y new
  pub same : (value : ℤ) → look new value ≡ look old value

-- the interval begins at a start and ends before one, and each value has the slots that it had
pub record HasEnds (low high : ℤ) (old new : List Start) : Type 0 where
  pub first : HasStart low new
  pub past : high <ℤ highest → HasStart (high +ℤ pos 1) new
  pub same : (value : ℤ) → look new value ≡ look old value

-- the start with the slot set or not
abbrev pub put_slot : ℕ → Bool → Start → Start
put_slot slot on s = record { low = s.low; set = slice_set s.set slot on }

-- the start with the slot set or not, if it is in the interval
abbrev pub put_within : ℕ → ℤ → ℤ → Bool → Start → Start
put_within slot low high on s = if is_within low s.low high then put_slot slot on s else s

-- the slot was set or not for each value of the interval, and nothing else changed
abbrev pub IsMarked : ℕ → ℤ → ℤ → Bool → List Start → List Start → Type 0
IsMarked slot low high on old new =
    (value : ℤ) → FitsSigned w64 value →
    look new value ≡ (if is_within low value high then slice_set (look old value) slot on else look old value)
