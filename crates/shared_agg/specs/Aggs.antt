-- What is kept of all streams, and of which changes its duties are.
use Rattle.std.specs.Prelude.{◌≡◌, ℕ, ◌+◌, ◌<◌, ◌≤◌, ◌==◌, ◌&&◌, Bool, true, if◌then◌else◌, Option, List, [], fold, length, slice_index_or}
use Rattle.as_base.specs.declared.fragment.Cell.{Cell}
use Rattle.as_base.specs.declared.message.Change.{Change}
use Rattle.as_base.specs.declared.stream.StreamId.{StreamId}
use Rattle.as_base.specs.declared.stream.StreamId.TheVariants.{A, B, C, D}
use Rattle.as_base.specs.Stream.{place_of}
use Rattle.as_base.specs.declared.item.Given.{Given}
use Rattle.changelog.specs.BySlot.{by_slot}
use Rattle.changelog.specs.Changes.{owner}
use Rattle.group_table.specs.Cells.{add_in}
use Rattle.shared_agg.specs.declared.aggs.Aggs.{Aggs}
use Rattle.shared_agg.specs.declared.aggs.Cache.{Cache}
use Rattle.shared_agg.specs.Duties.{duty_of}
use Rattle.shared_agg.specs.Fill.{has}
use Rattle.shared_agg.specs.Shares.{shares}
use Rattle.shared_agg.specs.Slices.{Lane, starts, cells_from, epoch_from, total_in}

-- a lane without a slice
abbrev pub no_lane : Lane
no_lane = record { slices = []; added = 0 }

-- the lane at a place
abbrev pub lane_at : List Lane → ℕ → Lane
lane_at lanes place = slice_index_or lanes place no_lane

-- what is kept of a stream
abbrev pub lane_of : Aggs → StreamId → Lane
lane_of a s = lane_at a.lanes (place_of s)

-- when the slices of a stream begin
abbrev pub starts_of : Aggs → StreamId → List ℕ
starts_of a s = starts (lane_of a s).slices

-- the cells of a slot in the slice of a stream that begins there, by rising group; none where there is no such slice
abbrev pub cells_in : Aggs → StreamId → ℕ → ℕ → List Cell
cells_in a s start slot = cells_from (lane_of a s).slices start slot

-- the epoch of the slice of a stream that begins there; `None` where there is no such slice
abbrev pub epoch_in : Aggs → StreamId → ℕ → Option ℕ
epoch_in a s start = epoch_from (lane_of a s).slices start

-- how many records were added to a stream
abbrev pub records_of : Aggs → StreamId → ℕ
records_of a s = (lane_of a s).added

-- how many cells all streams have
abbrev pub cells_of : Aggs → ℕ
cells_of a = total_in (lane_of a A).slices + total_in (lane_of a B).slices + total_in (lane_of a C).slices + total_in (lane_of a D).slices

-- the stream and the start are those of the slice
abbrev pub is_slice : StreamId → ℕ → StreamId → ℕ → Bool
is_slice s start t c = (place_of t == place_of s) && (c == start)

-- No stream has a slice, and no record was added.
pub record IsNone (a : Aggs) : Type 0 where
  pub starts_are : (s : StreamId) → starts_of a s ≡ []
  pub records_are : (s : StreamId) → records_of a s ≡ 0

-- The duties are those of the owners in its epoch of these changes.
pub record IsCacheFor (c : Cache) (cs : List Change) : Type 0 where
  pub duties : c.duties ≡ by_slot duty_of cs c.epoch
  pub epoch : c.epoch ≤ length cs

-- the cache at a place
abbrev pub cache_at : List Cache → ℕ → Cache
cache_at caches place = slice_index_or caches place (record { epoch = 0; duties = [] })

-- The duties that it holds for each stream are those of owners of these changes.
pub record AggsFor (a : Aggs) (cs : List Change) : Type 0 where
  pub caches : (s : StreamId) → IsCacheFor (cache_at a.caches (place_of s)) cs

-- Some slots of the set have got the whole share of a record in the slice; the cells of all others there are as they were.
pub record HaveShares (old new : Aggs) (s : StreamId) (start epoch : ℕ) (g : Given) (set : List Bool) (cs : List Change) : Type 0 where
  pub which : ℕ → Bool
  pub among : (slot : ℕ) → which slot ≡ true → has set slot ≡ true
  pub cells : (slot : ℕ) → slot < 512 →
      cells_in new s start slot ≡ fold add_in (cells_in old s start slot) (if which slot then shares g (owner cs epoch slot) else [])
