-- What came of each feeder through the inbox.
use Rattle.std.specs.Prelude.{ℕ, ◌≡◌, ◌+◌, ◌<◌, ◌++◌, Option, Some, List, [], ◌∷◌}
use Rattle.as_base.specs.declared.item.Item.{Item}
use Rattle.as_outside.specs.Sources.{SourceSeen, Pulls}
use Rattle.inbox.specs.declared.load.Load.{Load}
use Rattle.inbox.specs.declared.load.Load.TheVariants.{Last}
use Rattle.inbox.specs.declared.load.Ending.{Ending}
use Rattle.inbox.specs.declared.passes.Closed.{Closed}
use Rattle.inbox.specs.Roles.{from}
use Rattle.inbox.specs.Passes.{closed_offered, closed_taken}
use Rattle.feeder.specs.Maker.{line_loads, IsEnd, failed_at}
use Rattle.feeder.specs.Loads.{lines_in, ending_in}

-- the items of the lines that a feeder offered, in order
abbrev pub lines_by : Closed → ℕ → List Item
lines_by closed feeder = lines_in (closed_offered closed feeder)

-- how a feeder's last load says that its source ended
abbrev pub ending_by : Closed → ℕ → Option Ending
ending_by closed feeder = ending_in (closed_offered closed feeder)

-- A feeder offered the lines of the bytes that its source gave, and one last load, which says how the source ended.
pub record HasFed (limit : ℕ) (old new : SourceSeen) (loads : List Load) : Type 0 where
  pub end : Ending
  pub given : List ℕ
  pub pulls : Pulls old new given (failed_at end)
  pub ended : IsEnd end limit given new.left (lines_in loads)
  pub all : loads ≡ line_loads (lines_in loads) ++ Last end ∷ []
  pub told : ending_in loads ≡ Some end

-- The feeders from this number on have, each from its own source.
abbrev pub AreFed : ℕ → ℕ → List SourceSeen → List SourceSeen → Closed → Type 0
AreFed limit n [] [] closed = Unit {0}
AreFed limit n (old ∷ before) (new ∷ after) closed = HasFed limit old new (closed_offered closed n) × AreFed limit (n + 1) before after closed
AreFed limit n _ _ closed = ⊥

-- All that the five feeders offered went through the inbox, and was taken.
pub record WentThrough (limit : ℕ) (before after : List SourceSeen) (closed : Closed) : Type 0 where
  pub none_left : closed.left ≡ 0
  pub fed : AreFed limit 1 before after closed
  pub taken : (i : ℕ) → 0 < i → i < 6 → from i (closed_taken closed) ≡ closed_offered closed i
