-- The slices of one stream, and what a placing and an eviction are.
use Rattle.std.specs.Prelude.{◌≡◌, ℕ, ◌<◌, ◌++◌, Option, Some, None, List, [], ◌∷◌, length}
use Rattle.as_base.specs.declared.stream.StreamId.{StreamId}
use Rattle.by_start.specs.declared.Begun.{Begun}
use Rattle.by_start.specs.Order.{look, StartsRise, start_at, thing_at}
use Rattle.slice_store.specs.Placed.{Placed}
use Rattle.slice_store.specs.declared.placements.Held.{Held}

-- a stream and its slices
pub record Store : Type 0 where
  pub stream : StreamId
  pub slices : List (Begun Held)

-- the stream with the slices
abbrev pub store : StreamId → List (Begun Held) → Store
store s slices = record { stream = s; slices = slices }

-- a slice: when it begins, its epoch, and what was placed in it
pub record Slice : Type 0 where
  pub start : ℕ
  pub epoch : ℕ
  pub placed : List Placed

-- an epoch with what was placed
abbrev pub held : ℕ → List Placed → Held
held epoch ps = record { epoch = epoch; placed = ps }

-- what was placed in a slice; nothing where there is none
abbrev pub placed_in : Option Held → List Placed
placed_in None = []
placed_in (Some h) = h.placed

-- the epoch of a slice, where there is one
abbrev pub epoch_in : Option Held → Option ℕ
epoch_in None = None
epoch_in (Some h) = Some h.epoch

-- the same, or 0
abbrev pub epoch_or : Option Held → ℕ
epoch_or None = 0
epoch_or (Some h) = h.epoch

-- what was placed in the slice that begins there; nothing where there is none
abbrev pub placed_at : ℕ → List (Begun Held) → List Placed
placed_at c slices = placed_in (look c slices)

-- the epoch of the slice that begins there, or `None` where there is none
abbrev pub epoch_at : ℕ → List (Begun Held) → Option ℕ
epoch_at c slices = epoch_in (look c slices)

-- something was placed in each slice
abbrev pub AreFilled : List (Begun Held) → Type 0
AreFilled slices = (c : ℕ) (h : Held) → look c slices ≡ Some h → 0 < length h.placed

-- the starts rise, and something was placed in each slice
pub record AreOrderly (slices : List (Begun Held)) : Type 0 where
  pub rise : StartsRise slices
  pub filled : AreFilled slices

-- the slice at this place; an empty one where there is none
abbrev pub slice_of : List (Begun Held) → ℕ → Slice
slice_of slices i = record { start = start_at i slices; epoch = epoch_or (thing_at i slices); placed = placed_in (thing_at i slices) }

-- A slice after one more placing: it keeps its epoch; where there is none, it is made with this epoch.
abbrev pub with_placed : ℕ → Placed → Option Held → Held
with_placed epoch p None = held epoch (p ∷ [])
with_placed epoch p (Some h) = held h.epoch (h.placed ++ p ∷ [])
