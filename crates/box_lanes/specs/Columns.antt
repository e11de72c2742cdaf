-- Bounds slot by slot: which slots are read and have bounds that hold a record.
use Rattle.std.specs.Prelude.{Bool, false, ◌&&◌, List, Option, Some, None}
use Rattle.std.specs.Simd.Lanes.{zip2}
use Rattle.as_base.specs.Query.{holds_all}
use Rattle.as_base.specs.declared.item.Given.{Given}
use Rattle.as_base.specs.declared.query.Bounds.{Bounds}

-- the slot is set, and its bounds hold the record
abbrev pub holds_in : Option Bounds → Given → Bool
holds_in None g = false
holds_in (Some b) g = holds_all b g

-- the slots that are read and whose bounds hold the record
abbrev pub selected : List (Option Bounds) → List Bool → Given → List Bool
selected columns reads g = zip2 (λ b read. read && holds_in b g) columns reads
