-- The pairs that are found by walking one of two slices, in the order in which they are found.
use Rattle.std.specs.Prelude.{ℕ, ℤ, pos, ◌&&◌, if◌then◌else◌, Bool, List, [], ◌∷◌, length, slice_index_or}
use Rattle.std.specs.List.{filter, flat_map, range_with_len}
use Rattle.std.specs.Ordering.{int_eq}
use Rattle.as_base.specs.declared.item.Record.{Record}
use Rattle.as_base.specs.declared.stream.StreamId.TheVariants.{A}
use Rattle.queryset_lanes.specs.Slots.{both, has_slot}
use Rattle.slice_store.specs.Placed.{Placed, placed}
use Rattle.shared_join.specs.declared.pair.Pair.{Pair}

-- the record with those slots of its set that are in the mask
abbrev pub masked : List Bool → Placed → Placed
masked mask p = placed p.accepted (both p.set mask)

abbrev pub have_same_key : Record → Record → Bool
have_same_key one other = int_eq one.given.key other.given.key

-- the pair of two records, the first on the left, or on the right where it is turned
abbrev pub turned_pair : Bool → Record → Record → List Bool → Pair
turned_pair turned one other slots =
    if turned then record { left = other.given; right = one.given; set = slots }
    else record { left = one.given; right = other.given; set = slots }

-- the pair of two records in a list, or none where their keys differ or no slot has both
abbrev pub kept_pair : Bool → Placed → Placed → List Pair
kept_pair turned p q =
    if have_same_key p.accepted q.accepted && has_slot (both p.set q.set)
    then turned_pair turned p.accepted q.accepted (both p.set q.set) ∷ [] else []

-- the pairs of one of the records that are walked with each of the others
abbrev pub found_with : Bool → List Bool → List Placed → Placed → List Pair
found_with turned mask others one = flat_map (kept_pair turned (masked mask one)) others

-- the pairs of all of them
abbrev pub found : Bool → List Bool → List Placed → List Placed → List Pair
found turned mask ones others = flat_map (found_with turned mask others) ones

-- what stands for a record where there is none
abbrev pub nothing : Placed
nothing = placed (record { seq = 0; given = record { stream = A; time = 0; key = pos 0; v = [] } }) []

-- the record at a place has the key
abbrev pub has_key_at : ℤ → List Placed → ℕ → Bool
has_key_at key ps place = int_eq key (slice_index_or ps place nothing).accepted.given.key

-- the places of the records with the key, in rising order
abbrev pub places_with : ℤ → List Placed → List ℕ
places_with key ps = filter (has_key_at key ps) (range_with_len 0 (length ps))

-- the pair of a record with another at a place, in a list, or none
abbrev pub kept_at : Bool → Placed → List Placed → ℕ → List Pair
kept_at turned one others place = kept_pair turned one (slice_index_or others place nothing)
