-- Which rows fit a plan: by their kind, streams, window and group, and with all numbers in range.
use Rattle.std.specs.Prelude.{ℕ, ◌≡◌, ◌+◌, ◌^◌, ◌<◌, ◌≤◌, ℤ, pos, negsuc, Option, Some, None}
use Rattle.as_words.specs.Number.{IsSigned, IsWide}
use Rattle.as_base.specs.Range.{IsTime, IsSpelled}
use Rattle.as_base.specs.Windows.{start_of}
use Rattle.as_base.specs.declared.item.Given.{Given}
use Rattle.as_base.specs.declared.item.Item.TheVariants.{Rec}
use Rattle.as_base.specs.declared.query.Group.{Group}
use Rattle.as_base.specs.declared.query.Group.TheVariants as group
use Rattle.as_base.specs.declared.query.Kind.{Kind}
use Rattle.as_base.specs.declared.query.Kind.TheVariants.{Select, Sum, Count, Join}
use Rattle.as_base.specs.declared.query.Plan.{Plan}
use Rattle.as_base.specs.declared.row.Row.{Row}
use Rattle.as_base.specs.declared.row.Row.TheVariants.{Sel, Agg, Pair}
use Rattle.as_base.specs.declared.stream.StreamId.{StreamId}
use Rattle.as_base.specs.declared.windows.WinSpec.{WinSpec}

-- The record is of the stream, and a line may spell it: its time is in range, and its key and its four values are from
-- -2^63 to 2^63 - 1.
abbrev pub FitsRecord : StreamId → Given → Type 0
FitsRecord stream g = (g.stream ≡ stream) × IsSpelled (Rec g)

-- A window of these begins at the time.
abbrev pub IsStart : WinSpec → ℕ → Type 0
IsStart win start = (k : ℕ) × (start ≡ start_of win k)

-- A window of these begins and ends at these times, and 64 bits have room for its end.
abbrev pub FitsWindow : WinSpec → ℕ → ℕ → Type 0
FitsWindow win start end = IsTime start × IsStart win start × (end ≡ start + win.size) × (end < 2 ^ 64)

-- There is a group, from -2^63 to 2^63 - 1, just where records are grouped.
abbrev pub FitsGroup : Group → Option ℤ → Type 0
FitsGroup group.All told = told ≡ None
FitsGroup by None = ⊥
FitsGroup by (Some z) = IsSigned z

-- how many records there are in a window: from 1 to 2^64 - 1
abbrev pub IsCount : ℤ → Type 0
IsCount (pos n) = (1 ≤ n) × (n < 2 ^ 64)
IsCount (negsuc n) = ⊥

-- A sum is from -2^127 to 2^127 - 1, and a count from 1 to 2^64 - 1; other queries have no value.
abbrev pub FitsValue : Kind → ℤ → Type 0
FitsValue (Sum c) z = IsWide z
FitsValue Count z = IsCount z
FitsValue _ z = ⊥

-- The time is in the window from start up to, but not including, end.
abbrev pub IsWithin : ℕ → ℕ → ℕ → Type 0
IsWithin start end time = (start ≤ time) × (time < end)

-- The record is of the stream, and in the window.
abbrev pub FitsSide : StreamId → ℕ → ℕ → Given → Type 0
FitsSide stream start end g = FitsRecord stream g × IsWithin start end g.time

-- The row fits the plan, whose bounds on records are left aside. A selection has records of its stream. A sum or a count
-- has the value of a group in a window. A join has a left and a right record with equal keys, both in one window.
abbrev pub FitsRow : Plan → Row → Type 0
FitsRow p (Sel g) = (p.kind ≡ Select) × FitsRecord p.left g
FitsRow p (Agg start end group value) = FitsWindow p.win start end × FitsGroup p.group group × FitsValue p.kind value
FitsRow p (Pair start end left right) =
    (p.kind ≡ Join) × FitsWindow p.win start end × FitsSide p.left start end left × FitsSide p.right start end right × (left.key ≡ right.key)
