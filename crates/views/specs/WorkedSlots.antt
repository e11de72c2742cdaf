-- Worked owners, sets and cuts, evaluated on the definitions alone.
use Rattle.std.specs.Prelude.{ℕ, true, false, pos, ◌≡◌, refl, Bool, Option, Some, List, [], ◌∷◌, map, take}
use Rattle.std.specs.Option.{option_map}
use Rattle.as_base.specs.declared.item.Record.{Record}
use Rattle.as_base.specs.declared.message.Change.{Change}
use Rattle.as_base.specs.declared.message.Change.TheVariants.{Opened, Closed}
use Rattle.as_base.specs.declared.query.Group.TheVariants as group
use Rattle.as_base.specs.declared.query.Kind.{Kind}
use Rattle.as_base.specs.declared.query.Kind.TheVariants.{Count, Join}
use Rattle.as_base.specs.declared.query.Plan.{Plan}
use Rattle.as_base.specs.declared.stream.StreamId.{StreamId}
use Rattle.as_base.specs.declared.stream.StreamId.TheVariants.{A, B}
use Rattle.as_base.specs.Query.{unlimited}
use Rattle.views.specs.Slots.{Holder, holders_of, owner, set_of, cut, cut_of}

-- a plan over all records of a stream, or of two, with windows of 100 ticks
abbrev plan_of : Kind → StreamId → StreamId → Plan
plan_of kind left right = record {
  kind = kind;
  group = group.All;
  left = left;
  right = right;
  left_bounds = unlimited;
  right_bounds = unlimited;
  win = record { size = 100; slide = 100 };
}

-- slot 0 has query 1 from 0 up to 11, and query 2 of the same plan from 11 on
abbrev one_slot : Plan → List Change
one_slot plan = Opened 1 0 0 plan ∷ Closed 1 0 11 ∷ Opened 2 0 11 plan ∷ []

-- two counts, one after the other
abbrev counts : List Holder
counts = holders_of (one_slot (plan_of Count A A))

-- slices of the stream that is read begin with the queries, and with their windows
pub cuts_of_counts : map (cut counts A) (10 ∷ 20 ∷ 100 ∷ []) ≡ 0 ∷ 11 ∷ 100 ∷ []
cuts_of_counts = refl

-- a stream that no query reads is cut where queries begin and end, and by no window
pub cuts_of_none : map (cut counts B) (10 ∷ 20 ∷ 100 ∷ []) ≡ 0 ∷ 11 ∷ 11 ∷ []
cuts_of_none = refl

-- the owner of slot 0 by its number
abbrev number_at : ℕ → Option ℕ
number_at t = option_map (λ (h : Holder). h.query.n) (owner counts t 0)

-- at 11, where the one ends and the other begins, the other owns the slot
pub owners_of_slot : map number_at (10 ∷ 11 ∷ []) ≡ Some 1 ∷ Some 2 ∷ []
owners_of_slot = refl

-- two joins, one after the other
abbrev joins : List Holder
joins = holders_of (one_slot (plan_of Join A B))

-- a record of key 7, by its line, stream and time
abbrev record_at : ℕ → StreamId → ℕ → Record
record_at seq s t = record {
  seq = seq;
  given = record { stream = s; time = t; key = pos 7; v = pos 0 ∷ pos 0 ∷ pos 0 ∷ pos 0 ∷ [] };
}

-- one of each stream in each of two slices
abbrev four_records : List Record
four_records = record_at 2 A 10 ∷ record_at 3 A 20 ∷ record_at 4 B 5 ∷ record_at 5 B 30 ∷ []

-- both streams of the joins are cut alike
pub cuts_of_joins : map (cut_of joins) four_records ≡ 0 ∷ 11 ∷ 0 ∷ 11 ∷ []
cuts_of_joins = refl

-- slot 0 is in the set of each, and slot 1 in none
abbrev first_two : Record → List Bool
first_two r = take 2 (set_of joins r)

-- of two slots the first
abbrev slot_0_alone : List Bool
slot_0_alone = true ∷ false ∷ []

pub sets_of_joins : map first_two four_records ≡ slot_0_alone ∷ slot_0_alone ∷ slot_0_alone ∷ slot_0_alone ∷ []
sets_of_joins = refl
