-- What the indexes of the five fields know of the bounds of the slots.
use Rattle.std.specs.Prelude.{◌≡◌, ℕ, ℤ, List, length, map, Bool, false, true, IsTrue, Option, Some, None, FitsSigned}
use Rattle.std.specs.Int.{w64}
use Rattle.as_base.specs.Query.{at, is_within}
use Rattle.as_base.specs.declared.item.Given.{Given}
use Rattle.as_base.specs.declared.query.Bounds.{Bounds}
use Rattle.queryset_lanes.specs.Slots.{both}
use Rattle.box_lanes.specs.Index.{look, empty_table, IsMarked}
use Rattle.box_lanes.specs.declared.start.Start.{Start}
use Rattle.box_lanes.specs.declared.indexes.Indexes.{Indexes}

-- the slot is set, and its bounds hold the value of the field at this place
abbrev pub holds_field : ℕ → ℤ → Option Bounds → Bool
holds_field field value None = false
holds_field field value (Some b) = is_within (at b.lo field) value (at b.hi field)

-- each value of the field has just the slots whose bounds hold it
abbrev pub IsIndexOf : List Start → ℕ → List (Option Bounds) → Type 0
IsIndexOf starts field slots = (value : ℤ) → FitsSigned w64 value → look starts value ≡ map (holds_field field value) slots

-- this is so of the five fields
pub record AreIndexes (x : Indexes) (slots : List (Option Bounds)) : Type 0 where
  pub key : IsIndexOf x.key 0 slots
  pub first : IsIndexOf x.v1 1 slots
  pub second : IsIndexOf x.v2 2 slots
  pub third : IsIndexOf x.v3 3 slots
  pub fourth : IsIndexOf x.v4 4 slots

-- 512 slots, and indexes of them as long as none has wanted room
pub record AreIndexed (x : Indexes) (slots : List (Option Bounds)) : Type 0 where
  pub long : length slots ≡ 512
  pub whole : IsTrue x.is_whole → AreIndexes x slots

-- the indexes of no bounds
abbrev pub no_indexes : Indexes
no_indexes = record { key = empty_table; v1 = empty_table; v2 = empty_table; v3 = empty_table; v4 = empty_table; is_whole = true }

-- the slots that hold the value of each field
abbrev pub look_all : Indexes → Given → List Bool
look_all x g =
    both (both (look x.key g.key) (both (look x.v1 (at g.v 0)) (look x.v2 (at g.v 1))))
    (both (look x.v3 (at g.v 2)) (look x.v4 (at g.v 3)))

-- the slot was set or not for each value within the bounds, field by field
pub record AreMarked (slot : ℕ) (b : Bounds) (on : Bool) (old new : Indexes) : Type 0 where
  pub whole : IsTrue old.is_whole
  pub key : IsMarked slot (at b.lo 0) (at b.hi 0) on old.key new.key
  pub first : IsMarked slot (at b.lo 1) (at b.hi 1) on old.v1 new.v1
  pub second : IsMarked slot (at b.lo 2) (at b.hi 2) on old.v2 new.v2
  pub third : IsMarked slot (at b.lo 3) (at b.hi 3) on old.v3 new.v3
  pub fourth : IsMarked slot (at b.lo 4) (at b.hi 4) on old.v4 new.v4

-- the key and the values of a record are numbers of 64 bits
pub record AreFit (g : Given) : Type 0 where
  pub key : FitsSigned w64 g.key
  pub first : FitsSigned w64 (at g.v 0)
  pub second : FitsSigned w64 (at g.v 1)
  pub third : FitsSigned w64 (at g.v 2)
  pub fourth : FitsSigned w64 (at g.v 3)
