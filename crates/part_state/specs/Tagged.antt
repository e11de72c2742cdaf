-- What a record's stream tells of it.
use Rattle.std.specs.Prelude.{ℕ, ◌≡◌, List}
use Rattle.as_base.specs.declared.item.Record.{Record}
use Rattle.as_base.specs.declared.message.Change.{Change}
use Rattle.as_base.specs.declared.stream.StreamId.{StreamId}
use Rattle.changelog.specs.Changes.{epoch_at}
use Rattle.shared_select.specs.SelectorFor.{stream_of, epoch_of, SelectorFor}
use Rattle.views.specs.Slots.{set_of, cut_of}
use Rattle.contents.specs.Kept.{is_wanted}
use Rattle.contents.specs.Past.{Past}
use Rattle.part_state.specs.declared.tagger.Tag.{Tag}
use Rattle.part_state.specs.declared.tagger.Tagger.{Tagger}
use Rattle.part_state.specs.declared.reader.Placing.{Placing}
use Rattle.part_state.specs.Keeping.{keeping}

-- the epoch in which it stands
abbrev pub epoch_of_tagger : Tagger → ℕ
epoch_of_tagger t = epoch_of t.selector

-- It stands for the owners in its epoch of these changes: which of them want the records of the stream, and which keep them.
pub record IsTaggerFor (t : Tagger) (s : StreamId) (cs : List Change) : Type 0 where
  pub stream : stream_of t.selector ≡ s
  pub columns : SelectorFor t.selector cs
  pub keepers : t.keepers ≡ keeping cs (epoch_of t.selector)

-- The tag of a record: the set of its slots, whether some selection or join has it, and the epoch at its time.
pub record IsTagOf (p : Past) (r : Record) (tag : Tag) : Type 0 where
  pub set : tag.set ≡ set_of p.holders r
  pub kept : tag.is_kept ≡ is_wanted p.holders r
  pub epoch : tag.epoch ≡ epoch_at p.changes r.given.time

-- Where a record belongs: the set of its slots, and where its slice begins, and the epoch of that.
pub record IsPlacingOf (p : Past) (r : Record) (placing : Placing) : Type 0 where
  pub set : placing.set ≡ set_of p.holders r
  pub start : placing.start ≡ cut_of p.holders r
  pub epoch : placing.epoch ≡ epoch_at p.changes r.given.time
