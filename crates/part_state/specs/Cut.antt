-- Where slices of a stream begin, remembered for a stretch of time.
use Rattle.std.specs.Prelude.{ℕ, ◌≡◌, ◌≤◌, ◌<◌, List, length}
use Rattle.as_base.specs.declared.message.Change.{Change}
use Rattle.as_base.specs.declared.stream.StreamId.{StreamId}
use Rattle.changelog.specs.Changes.{slice_start}
use Rattle.part_state.specs.declared.cut.Cut.{Cut}

-- It was read off the first so many of the changes; if no other came since, the slices of its stretch begin there.
pub record IsCutFor (c : Cut) (s : StreamId) (cs : List Change) : Type 0 where
  pub changes : c.changes ≤ length cs
  pub same : c.changes ≡ length cs → (u : ℕ) → c.from ≤ u → u < c.until → slice_start cs s u ≡ c.start
