-- What is kept of changes, of which the first may have been trimmed. Several lists of changes stand for one value then.
use Rattle.std.specs.Prelude.{ℕ, ◌≡◌, ◌+◌, ◌-◌, ◌≤◌, Option, List, [], ◌++◌, map, drop, length, slice_index_or}
use Rattle.as_base.specs.declared.message.Change.{Change}
use Rattle.as_base.specs.declared.query.Plan.{Plan}
use Rattle.changelog.specs.declared.epochs.Epochs.{Epochs}
use Rattle.changelog.specs.declared.spans.Span.{Span}
use Rattle.changelog.specs.Changes.{slot_of, times_of, Rises, owner, last_or}
use Rattle.changelog.specs.Spans.{holder_at}

-- the owners of a slot that are kept
abbrev pub spans_of : List (List Span) → ℕ → List Span
spans_of table slot = slice_index_or table slot []

-- So many changes, the time of the last that was trimmed, the times of the others, and the owners of each slot in every
-- epoch that was not trimmed are those of the changes.
pub record Keeps (last floor : ℕ) (times : List ℕ) (table : List (List Span)) (cs : List Change) : Type 0 where
  pub trimmed : List ℕ
  pub stamps : trimmed ++ times ≡ times_of cs
  pub count : last ≡ length cs
  pub latest : floor ≡ last_or 0 trimmed
  pub rises : Rises cs
  pub owners : (slot epoch : ℕ) → last ≤ epoch + length times → holder_at (spans_of table slot) epoch ≡ owner cs epoch slot

-- the slots are those of so many of the last changes
abbrev pub AreLastSlots : ℕ → List ℕ → List Change → Type 0
AreLastSlots count slots cs = slots ≡ drop (length cs - count) (map slot_of cs)

-- the value stands for the changes
abbrev pub EpochsFor : Epochs → List Change → Type 0
EpochsFor e cs = Keeps e.last e.floor e.times.items e.table.items cs × AreLastSlots (length e.times.items) e.slots cs

-- the epoch may be asked for: no change after it was trimmed
abbrev pub IsKept : Epochs → ℕ → Type 0
IsKept e epoch = e.last ≤ epoch + length e.times.items

-- who owns the slot in an epoch, by what is kept
abbrev pub owned : Epochs → ℕ → ℕ → Option (ℕ × Plan)
owned e epoch slot = holder_at (spans_of e.table.items slot) epoch

-- how many changes there are
abbrev pub last_of : Epochs → ℕ
last_of e = e.last

-- how many changes are still held
abbrev pub held_of : Epochs → ℕ
held_of e = length e.times.items

-- the time of the last change; 0 where there is none
abbrev pub newest : Epochs → ℕ
newest e = last_or e.floor e.times.items
