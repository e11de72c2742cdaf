-- The pairs of records that two slices have: which are wanted, whatever their order.
use Rattle.std.specs.Prelude.{◌≡◌, ℕ, ◌≤◌, min, max, Bool, List, length, map}
use Rattle.std.specs.List.{filter, flat_map, count_by}
use Rattle.std.specs.Ordering.{int_eq}
use Rattle.changelog_set.specs.declared.touched.Touched.{Touched}
use Rattle.changelog_set.specs.Sets.{unchanged}
use Rattle.changelog_set.specs.TouchedFor.{TouchedFor, IsKept}
use Rattle.queryset_lanes.specs.Slots.{both, has_slot}
use Rattle.slice_store.specs.Placed.{Placed}
use Rattle.slice_store.specs.Slices.{Store, slice_of}
use Rattle.shared_join.specs.declared.pair.Pair.{Pair}

-- the pair of two records, with the slots that have both and that no change between touched
abbrev pub pair : List Bool → Placed → Placed → Pair
pair unchanged p q = record { left = p.accepted.given; right = q.accepted.given; set = both (both p.set q.set) unchanged }

-- the two records have equal keys
abbrev pub keys_meet : Placed → Placed → Bool
keys_meet p q = int_eq p.accepted.given.key q.accepted.given.key

-- some slot has the pair
abbrev pub is_kept : Pair → Bool
is_kept p = has_slot p.set

-- the left record with each right one of its key, but for pairs that no slot has
abbrev pub wanted_with : List Placed → List Bool → Placed → List Pair
wanted_with rights unchanged p = filter is_kept (map (pair unchanged p) (filter (keys_meet p) rights))

-- each left record with each right one of its key, but for pairs that no slot has
unfoldable pub wanted : List Placed → List Placed → List Bool → List Pair
wanted lefts rights unchanged = flat_map (wanted_with rights unchanged) lefts

-- Each pair stands as often in the one as in the other: nothing is lost, and nothing is there twice.
abbrev pub AreAlike : List Pair → List Pair → Type 0
AreAlike ps qs = (test : Pair → Bool) → count_by test ps ≡ count_by test qs

-- the lesser and the greater of the epochs of two slices
abbrev pub low_epoch : Store → ℕ → Store → ℕ → ℕ
low_epoch a i b j = min (slice_of a.slices i).epoch (slice_of b.slices j).epoch

abbrev pub high_epoch : Store → ℕ → Store → ℕ → ℕ
high_epoch a i b j = max (slice_of a.slices i).epoch (slice_of b.slices j).epoch

-- The pairs are those of slice i of the one stream and slice j of the other, by the changes between their epochs, whatever
-- sets the changes touched before.
abbrev pub ArePairsOf : Touched → Store → ℕ → Store → ℕ → List Pair → Type 0
ArePairsOf touched a i b j pairs = (sets : List (List Bool)) → TouchedFor touched sets → IsKept touched (low_epoch a i b j) → high_epoch a i b j ≤ length sets →
    AreAlike pairs (wanted (slice_of a.slices i).placed (slice_of b.slices j).placed (unchanged sets (low_epoch a i b j) (high_epoch a i b j)))
