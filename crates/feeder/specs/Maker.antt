-- What a maker of loads has made of the bytes that its source gave.
use Rattle.std.specs.Prelude.{ℕ, ◌≡◌, ◌≤◌, ◌+◌, Option, Some, None, List, [], ◌∷◌, ◌++◌, length, map, take}
use Rattle.std.specs.Option.{option_to_list}
use Rattle.as_base.specs.declared.item.Item.{Item}
use Rattle.as_lineform.specs.Lines.{lines, items}
use Rattle.as_lineform.specs.Cutter.{HasRead}
use Rattle.inbox.specs.declared.load.Load.{Load}
use Rattle.inbox.specs.declared.load.Load.TheVariants.{Line, Last}
use Rattle.inbox.specs.declared.load.Ending.{Ending}
use Rattle.inbox.specs.declared.load.Ending.TheVariants as ending
use Rattle.feeder.specs.declared.maker.Maker.{Maker}
use Rattle.feeder.specs.declared.maker.Phase.{Phase}
use Rattle.feeder.specs.declared.maker.Phase.TheVariants as phase

-- the loads of lines
abbrev pub line_loads : List Item → List Load
line_loads its = map Line its

-- nothing is left to be pulled, if what is left is told
abbrev pub IsEmpty : Option (List ℕ) → Type 0
IsEmpty left = (rest : List ℕ) → left ≡ Some rest → rest ≡ []

-- How a source ended, by all bytes that it gave under the limit: these are the items that were made of them. A whole one
-- gives the items of all its bytes, a fault those of the lines that came whole, one that is too long those of the lines
-- within the limit, of which one byte more came, and want of memory some of the first whole lines.
abbrev pub IsEnd : Ending → ℕ → List ℕ → Option (List ℕ) → List Item → Type 0
IsEnd ending.Whole limit given left its = (its ≡ items given) × (length given ≤ limit) × IsEmpty left
IsEnd ending.ReadFault limit given left its = (its ≡ lines given) × (length given ≤ limit)
IsEnd ending.TooLong limit given left its = (its ≡ lines (take limit given)) × (length given ≡ limit + 1)
IsEnd ending.NoMemory limit given left its = (length given ≤ limit + 1) × ((more : List Item) × (lines given ≡ its ++ more))

-- Bytes were read, and the loads of their lines made; these wait to be read. So many more may come, and so many came
-- beyond the limit.
pub record IsReading (beyond : ℕ) (cutter : Option (List ℕ)) (waiting : List ℕ) (most limit : ℕ) (given : List ℕ) (made : List Load) : Type 0 where
  pub read : List ℕ
  pub extra : List ℕ
  pub all : given ≡ (read ++ waiting) ++ extra
  pub over : length extra ≡ beyond
  pub cut : HasRead cutter read
  pub loads : made ≡ line_loads (lines read)
  pub room : length (read ++ waiting) + most ≡ limit

-- All bytes of the source were read, and the loads of all its lines made, but for the last load.
pub record IsClosing (limit : ℕ) (given : List ℕ) (left : Option (List ℕ)) (made : List Load) : Type 0 where
  pub loads : made ≡ line_loads (items given)
  pub fits : length given ≤ limit
  pub empty : IsEmpty left

-- All loads were made: those of lines, and the last, which says how the source ended.
pub record IsEnded (e : Ending) (limit : ℕ) (given : List ℕ) (left : Option (List ℕ)) (made : List Load) : Type 0 where
  pub its : List Item
  pub end : IsEnd e limit given left its
  pub loads : made ≡ line_loads its ++ Last e ∷ []

-- bytes may still be read
abbrev pub IsUnread : Phase → Type 0
IsUnread phase.Reading = Unit {0}
IsUnread phase.Over = Unit {0}
IsUnread phase.Closing = ⊥
IsUnread (phase.Ended e) = ⊥

-- where a maker stands that has made these loads of the bytes given
abbrev pub IsIn : Phase → Option (List ℕ) → List ℕ → ℕ → ℕ → List ℕ → Option (List ℕ) → List Load → Type 0
IsIn phase.Reading cutter waiting most limit given left made = IsReading 0 cutter waiting most limit given made
IsIn phase.Over cutter waiting most limit given left made = IsReading 1 cutter waiting 0 limit given made
IsIn phase.Closing cutter waiting most limit given left made = IsClosing limit given left made
IsIn (phase.Ended e) cutter waiting most limit given left made = IsEnded e limit given left made

-- how many pulls failed, by how a source ended
abbrev pub failed_at : Ending → ℕ
failed_at ending.ReadFault = 1
failed_at ending.Whole = 0
failed_at ending.TooLong = 0
failed_at ending.NoMemory = 0

-- how many pulls failed, by where a maker stands
abbrev pub failed_in : Phase → ℕ
failed_in (phase.Ended e) = failed_at e
failed_in phase.Reading = 0
failed_in phase.Over = 0
failed_in phase.Closing = 0

-- Of the bytes given the maker has made the loads that were offered, and the one that waits to be, if one does.
abbrev pub HasLoads : ℕ → List ℕ → Option (List ℕ) → Maker → List Load → Type 0
HasLoads limit given left m offered = IsIn m.phase m.cutter m.waiting m.most limit given left (offered ++ option_to_list m.next)

-- The same, where so many pulls failed.
pub record HasMade (limit : ℕ) (given : List ℕ) (failed : ℕ) (left : Option (List ℕ)) (m : Maker) (offered : List Load) : Type 0 where
  pub loads : HasLoads limit given left m offered
  pub faults : failed ≡ failed_in m.phase

-- the maker has made its last load, and it was offered
abbrev pub IsOver : Maker → Type 0
IsOver m = (e : Ending) × (m.phase ≡ phase.Ended e) × (m.next ≡ None)
