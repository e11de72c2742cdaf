-- The slots that changes touch.
use Rattle.std.specs.Prelude.{Bool, true, false, List, map, replicate, slice_set}
use Rattle.as_base.specs.declared.message.Change.{Change}
use Rattle.changelog.specs.Changes.{slot_of}

-- the slot that a change touches, as a set
abbrev pub touched_by : Change → List Bool
touched_by c = slice_set (replicate 512 false) (slot_of c) true

-- the same of each change
abbrev pub touched : List Change → List (List Bool)
touched cs = map touched_by cs
