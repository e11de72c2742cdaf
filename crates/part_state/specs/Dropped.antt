-- What is left of cells when those go whose windows are passed.
use Rattle.std.specs.Prelude.{ℕ, ◌≡◌, ◌==◌, ◌&&◌, nat_lt, Bool, Some, List}
use Rattle.as_base.specs.declared.message.Change.{Change}
use Rattle.as_base.specs.declared.stream.StreamId.{StreamId}
use Rattle.as_base.specs.Stream.{place_of}
use Rattle.shared_agg.specs.declared.aggs.Aggs.{Aggs}
use Rattle.shared_agg.specs.Aggs.{AggsFor, epoch_in, records_of}
use Rattle.shared_agg.specs.Fill.{has}
use Rattle.views.specs.Slots.{Holder}
use Rattle.part_state.specs.declared.waiting.Wait.TheVariants.{Passed}
use Rattle.part_state.specs.Waiting.{waiting}

-- the slice is one of the stream's that begin before the time, and the slot's windows there are passed
abbrev pub are_dropped : StreamId → ℕ → List ℕ → List Holder → StreamId → ℕ → ℕ → Bool
are_dropped s time marks hs t c slot = (place_of t == place_of s) && (nat_lt c time && has (waiting Passed marks c hs) slot)

-- no slice is new, no record was added, and the duties are those of the same changes
pub record Thinned (old new : Aggs) : Type 0 where
  pub epochs : (s : StreamId) (c e : ℕ) → epoch_in new s c ≡ Some e → epoch_in old s c ≡ Some e
  pub records : (s : StreamId) → records_of new s ≡ records_of old s
  pub duties : (cs : List Change) → AggsFor old cs → AggsFor new cs
