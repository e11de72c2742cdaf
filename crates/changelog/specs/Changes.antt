-- Changes of the slots, numbered from 1 in the order of appending, and what stands after the first of them.
use Rattle.std.specs.Prelude.{ℕ, zero, suc, ◌≤◌, ◌==◌, ◌&&◌, max, nat_le, if◌then◌else◌, Option, Some, None, List, [], ◌∷◌, map, take}
use Rattle.std.specs.List.{count_by, AllByRecursion}
use Rattle.as_base.specs.declared.message.Change.{Change}
use Rattle.as_base.specs.declared.message.Change.TheVariants.{Opened, Closed}
use Rattle.as_base.specs.declared.query.Plan.{Plan}
use Rattle.as_base.specs.declared.stream.StreamId.{StreamId}
use Rattle.as_base.specs.Windows.{last_edge}
use Rattle.views.specs.IsHolder.{time_of}
use Rattle.views.specs.Slots.{has_windows}
use Rattle.views.specs.View.{reads}

-- the slot that the change opens or closes
abbrev pub slot_of : Change → ℕ
slot_of (Opened n slot at plan) = slot
slot_of (Closed n slot at) = slot

-- the query that the change gives its slot to: its number and its plan, or none
abbrev pub opened_by : Change → Option (ℕ × Plan)
opened_by (Opened n slot at plan) = Some (n, plan)
opened_by (Closed n slot at) = None

-- the times of the changes
abbrev pub times_of : List Change → List ℕ
times_of cs = map time_of cs

-- the numbers never fall
abbrev pub AreClimbing : List ℕ → Type 0
AreClimbing [] = Unit {0}
AreClimbing (n ∷ ns) = AllByRecursion (λ m. n ≤ m) ns × AreClimbing ns

-- times never fall
abbrev pub Rises : List Change → Type 0
Rises cs = AreClimbing (times_of cs)

-- how many of the times are not after this one
abbrev pub until : ℕ → List ℕ → ℕ
until t times = count_by (λ n. nat_le n t) times

-- how many changes have a time that is not after this one
abbrev pub epoch_at : List Change → ℕ → ℕ
epoch_at cs t = until t (times_of cs)

-- who owns the slot after the changes, where this query owned it before
abbrev pub owner_from : Option (ℕ × Plan) → List Change → ℕ → Option (ℕ × Plan)
owner_from before [] slot = before
owner_from before (c ∷ cs) slot = owner_from (if slot_of c == slot then opened_by c else before) cs slot

-- the query that the last change of the slot opened; none where there is no change of it, or it closed the slot
abbrev pub owner_in : List Change → ℕ → Option (ℕ × Plan)
owner_in cs slot = owner_from None cs slot

-- the query that owns the slot in an epoch
abbrev pub owner : List Change → ℕ → ℕ → Option (ℕ × Plan)
owner cs epoch slot = owner_in (take epoch cs) slot

-- the last of the numbers, or this one where there are none
abbrev pub last_or : ℕ → List ℕ → ℕ
last_or before [] = before
last_or before (n ∷ ns) = last_or n ns

-- when an epoch began: the time of the change of that number; 0 for epoch 0
abbrev pub began : List Change → ℕ → ℕ
began cs epoch = last_or 0 (take epoch (times_of cs))

-- the latest edge, not after the time, of the windows that the owner of a slot has on a stream; 0 where it has none
abbrev pub edge_of : StreamId → ℕ → Option (ℕ × Plan) → ℕ
edge_of s t None = 0
edge_of s t (Some q) = if has_windows q.1.kind && reads q.1 s then last_edge q.1.win t else 0

-- the greatest of what the numbers below n have; 0 where there are none
unfoldable pub greatest_below : (ℕ → ℕ) → ℕ → ℕ
greatest_below f zero = 0
greatest_below f (suc n) = max (greatest_below f n) (f n)

-- the latest beginning in an epoch that is not after a time: of the epoch, or of a slice by the edges of its owners
abbrev pub start_in : List Change → ℕ → StreamId → ℕ → ℕ
start_in cs epoch s t = max (began cs epoch) (greatest_below (λ slot. edge_of s t (owner cs epoch slot)) 512)

-- Where the slice of a stream begins that holds a time: the greatest of 0, the last time of a change that is not after
-- it, and the last edge at it of each windowed query that owns a slot then and reads the stream.
abbrev pub slice_start : List Change → StreamId → ℕ → ℕ
slice_start cs s t = start_in cs (epoch_at cs t) s t
