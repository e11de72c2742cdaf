-- What a state keeps, over the past that messages make and the records that are stored of it.
use Rattle.std.specs.Prelude.{ℕ, ◌≡◌, ◌≤◌, ◌<◌, ◌^◌, Some, List, length, slice_index_or}
use Rattle.as_base.specs.declared.item.Record.{Record}
use Rattle.as_base.specs.declared.stream.StreamId.{StreamId}
use Rattle.as_base.specs.Stream.{place_of}
use Rattle.changelog.specs.EpochsFor.{EpochsFor, IsKept}
use Rattle.changelog_set.specs.TouchedFor.{TouchedFor}
use Rattle.shared_agg.specs.Aggs.{AggsFor, cells_in, epoch_in, records_of}
use Rattle.contents.specs.Cells.{cells_at}
use Rattle.contents.specs.Past.{Past}
use Rattle.contents.specs.Touched.{touched}
use Rattle.part_state.specs.declared.reader.Reader.{Reader}
use Rattle.part_state.specs.declared.state.State.{State}
use Rattle.part_state.specs.Entries.{running}
use Rattle.part_state.specs.Reader.{IsSliceEpoch, IsReaderFor}

-- the record comes before the time, and before the end of time
abbrev pub IsBefore : ℕ → Record → Type 0
IsBefore at r = (r.given.time < at) × (r.given.time < 2 ^ 62)

-- the readers stand for the four streams
abbrev pub AreReadersFor : List Reader → Past → List Record → Type 0
AreReadersFor readers p stored = (s : StreamId) (d : Reader) → IsReaderFor (slice_index_or readers (place_of s) d) s p stored

-- The changes and the slots that they touch; of each stream its records; the cells of sums and counts; the watermarks; and the
-- queries that still run.
pub record IsStanding (st : State) (p : Past) (stored : List Record) : Type 0 where
  pub epochs : EpochsFor st.epochs p.changes
  pub untrimmed : IsKept st.epochs 0
  pub touched : TouchedFor st.touched (touched p.changes)
  pub readers : AreReadersFor st.readers p stored
  pub duties : AggsFor st.aggs p.changes
  pub cells : (s : StreamId) (c slot : ℕ) → slot < 512 → cells_in st.aggs s c slot ≡ cells_at p s slot c
  pub cell_epochs : (s : StreamId) (c e : ℕ) → epoch_in st.aggs s c ≡ Some e → IsSliceEpoch p c e
  pub added : (s : StreamId) → records_of st.aggs s ≤ length p.records
  pub marks : st.marks ≡ p.marks
  pub entries : st.entries ≡ running p.marks p.holders
