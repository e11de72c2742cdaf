-- What is kept of one stream.
use Rattle.std.specs.Prelude.{ℕ, ◌≡◌, ◌≤◌, ◌<◌, ◌^◌, nat_le, true, Some, List, map}
use Rattle.std.specs.List.{filter, list_any, AllByRecursion}
use Rattle.as_base.specs.declared.item.Record.{Record}
use Rattle.as_base.specs.declared.stream.StreamId.{StreamId}
use Rattle.changelog.specs.Changes as changes
use Rattle.slice_store.specs.Placed.{Placed, placed}
use Rattle.slice_store.specs.Slices.{placed_at, epoch_at}
use Rattle.views.specs.Slots.{Holder, set_of}
use Rattle.views.specs.View.{is_of}
use Rattle.as_base.specs.declared.message.Msg.TheVariants as msg
use Rattle.contents.specs.IsPast.{IsPast}
use Rattle.contents.specs.Kept.{slice_at, kept_with}
use Rattle.contents.specs.Past.{Past, followed, mark_of}
use Rattle.part_state.specs.Entries.{running}
use Rattle.part_state.specs.declared.reader.Reader.{Reader}
use Rattle.part_state.specs.Cut.{IsCutFor}
use Rattle.part_state.specs.Tagged.{epoch_of_tagger, IsTaggerFor}

-- the epoch at the last record of the stream; 0 where there is none
abbrev pub last_epoch : Past → StreamId → ℕ
last_epoch p s = changes.last_or 0 (map (λ (r : Record). changes.epoch_at p.changes r.given.time) (filter (is_of s) p.records))

-- the record with its set of slots
abbrev pub with_set : List Holder → Record → Placed
with_set hs r = placed r (set_of hs r)

-- A slice that begins there has the epoch at its start, and some record came then or later.
pub record IsSliceEpoch (p : Past) (c e : ℕ) : Type 0 where
  pub epoch : e ≡ changes.epoch_at p.changes c
  pub begun : list_any (λ (r : Record). nat_le c r.given.time) p.records ≡ true

-- It tags by the epoch of the stream's last record, and keeps those of the stored records that are of the stream, each once
-- and in its slice, with its set.
pub record IsReaderFor (reader : Reader) (s : StreamId) (p : Past) (stored : List Record) : Type 0 where
  pub tags : IsTaggerFor reader.tagger s p.changes
  pub epoch : epoch_of_tagger reader.tagger ≡ last_epoch p s
  pub cut : IsCutFor reader.cut s p.changes
  pub store : reader.slices.stream ≡ s
  pub placed : (c : ℕ) → placed_at c reader.slices.slices ≡ map (with_set p.holders) (slice_at p.holders s c stored)
  pub epochs : (c e : ℕ) → epoch_at c reader.slices.slices ≡ Some e → IsSliceEpoch p c e

-- What it stands for after new watermarks, where the queries ran that are given.
abbrev pub IsEvicted : List Holder → List ℕ → Reader → Reader → Type 0
IsEvicted es wm old new =
    (s : StreamId) (p : Past) (stored : List Record) → IsPast p → ((t : StreamId) → mark_of p.marks t ≤ mark_of wm t) → es ≡ running p.marks p.holders
    → AllByRecursion (λ (r : Record). r.given.time < 2 ^ 62) stored → IsReaderFor old s p stored
    → IsReaderFor new s (followed p (msg.Advance wm)) (kept_with (followed p (msg.Advance wm)) stored (msg.Advance wm))
