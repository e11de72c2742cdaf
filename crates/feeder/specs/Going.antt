-- From one state of a feeder to a later one.
use Rattle.std.specs.Prelude.{ℕ, ◌≡◌, ◌+◌, List, ◌++◌}
use Rattle.as_outside.specs.Sources.{SourceSeen, Pulls}
use Rattle.inbox.specs.declared.load.Load.{Load}
use Rattle.inbox.specs.declared.passes.FeedPass.{FeedPass}
use Rattle.inbox.specs.Passes.{inbox_of, feeder_in, offered}
use Rattle.as_outside.specs.declared.source.Source as source
use Rattle.feeder.specs.declared.maker.Maker.{Maker}
use Rattle.feeder.specs.declared.feeder.Feeder.{Feeder}
use Rattle.feeder.specs.Maker.{IsIn, HasMade, failed_in}

-- More bytes were pulled, and so many more pulls failed; the maker has made the loads of all bytes given.
pub record HasMadeMore (old new : SourceSeen) (limit : ℕ) (given : List ℕ) (failed : ℕ) (m : Maker) (offered : List Load) : Type 0 where
  pub more : List ℕ
  pub faults : ℕ
  pub pulls : Pulls old new more faults
  pub made : HasMade limit (given ++ more) (failed + faults) new.left m offered

-- From a maker and what was offered to a later one: whatever was given before, more was pulled, and the loads are those of
-- all.
abbrev pub GoesOn : SourceSeen → SourceSeen → Maker → Maker → List Load → List Load → Type 0
GoesOn old new m m' offered offered' =
    (limit : ℕ) (given : List ℕ) (failed : ℕ) → HasMade limit given failed old.left m offered → HasMadeMore old new limit given failed m' offered'

-- A maker with no load that waits makes what comes next.
abbrev pub Makes : SourceSeen → SourceSeen → Maker → Maker → Type 0
Makes old new m m' =
    (limit : ℕ) (given : List ℕ) (failed : ℕ) (made : List Load) → IsIn m.phase m.cutter m.waiting m.most limit given old.left made → failed ≡ failed_in m.phase
    → HasMadeMore old new limit given failed m' made

-- the same feeder at the same inbox
abbrev pub IsSame : FeedPass → FeedPass → Type 0
IsSame old new = (inbox_of new ≡ inbox_of old) × (feeder_in new ≡ feeder_in old)

-- the one feeder is a later state of the other
abbrev pub IsLater : {F : Type 0} → source.Ghosts F → Feeder F → Feeder F → Type 0
IsLater s old new =
    IsSame old.pass new.pass × GoesOn (s.seen old.source) (s.seen new.source) old.maker new.maker (offered old.pass) (offered new.pass)
