-- What a cutter of lines keeps of the line that has begun, and what it gives at a line feed.
use Rattle.std.specs.Prelude.{ℕ, ◌≡◌, ◌==◌, nat_le, if◌then◌else◌, Option, Some, None, List, [], ◌∷◌, ◌++◌, length, take, position}
use Rattle.as_base.specs.declared.item.Cause.TheVariants.{Long}
use Rattle.as_base.specs.declared.item.Item.{Item}
use Rattle.as_base.specs.declared.item.Item.TheVariants.{Bad}
use Rattle.as_base.specs.Range.{IsSpelled}
use Rattle.as_lineform.specs.declared.lines.Step.{Step}
use Rattle.as_lineform.specs.declared.lines.Step.TheVariants.{Line, More}
use Rattle.as_lineform.specs.Item.{item_of, IsCreation}
use Rattle.as_lineform.specs.Lines.{rest}

-- what a cutter keeps of a line: the line, or nothing where it is longer than a line may be
abbrev pub kept : List ℕ → Option (List ℕ)
kept line = if nat_le (length line) 4096 then Some line else None

-- what a cutter keeps with one more byte of the line
abbrev pub keep : Option (List ℕ) → ℕ → Option (List ℕ)
keep (Some line) b = kept (line ++ b ∷ [])
keep None b = None

-- what a cutter keeps with more bytes of the line
abbrev pub keep_all : Option (List ℕ) → List ℕ → Option (List ℕ)
keep_all cutter [] = cutter
keep_all cutter (b ∷ bytes) = keep_all (keep cutter b) bytes

-- the item of a line of which this was kept
abbrev pub kept_item : Option (List ℕ) → Item
kept_item (Some line) = item_of line
kept_item None = Bad Long

-- the cutter has taken these bytes
abbrev pub HasRead : Option (List ℕ) → List ℕ → Type 0
HasRead cutter bytes = cutter ≡ kept (rest bytes)

-- the items that a step gives
abbrev pub items_in : Step → List Item
items_in (Line item) = item ∷ []
items_in More = []

-- the item that a step gives is one that a line may spell
abbrev pub StepIsSpelled : Step → Type 0
StepIsSpelled (Line item) = IsSpelled item
StepIsSpelled More = Unit {0}

-- the line that the first line feed of the bytes ends is a creation; of its part before the bytes this was kept
abbrev pub EndsCreation : Option (List ℕ) → List ℕ → Type 0
EndsCreation cutter bytes = (at : ℕ) × (position (λ b. b == 10) bytes ≡ Some at) × IsCreation (kept_item (keep_all cutter (take at bytes)))
