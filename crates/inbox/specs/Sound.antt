-- Which loads may go through an inbox.
use Rattle.as_base.specs.Range.{IsSpelled}
use Rattle.inbox.specs.declared.load.Load.{Load}
use Rattle.inbox.specs.declared.load.Load.TheVariants.{Line, Last}

-- a line's item has its numbers in the ranges that a line may spell
abbrev pub IsSound : Load → Type 0
IsSound (Line item) = IsSpelled item
IsSound (Last ending) = Unit {0}
