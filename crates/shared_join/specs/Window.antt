-- What a window shows of the pairs that are kept.
use Rattle.std.specs.Prelude.{ℕ, ◌&&◌, nat_le, nat_lt, if◌then◌else◌, Bool, List, [], ◌∷◌, map, length, unwrap_or}
use Rattle.std.specs.List.{filter, flat_map, range_with_len}
use Rattle.as_base.specs.declared.fragment.Couple.{Couple}
use Rattle.changelog_set.specs.Sets.{has}
use Rattle.slice_store.specs.Slices.{Store, slice_of}
use Rattle.views.specs.Pairs.{couple}
use Rattle.shared_join.specs.declared.pair.Pair.{Pair}
use Rattle.shared_join.specs.declared.window.Window.{Window}
use Rattle.shared_join.specs.Lanes.{Lane, met_at}

-- a window of a slot and a range; its pairs are turned, or not
abbrev pub window_of : ℕ → ℕ → ℕ → Bool → Window
window_of slot from to turned = record { slot = slot; from = from; to = to; turned = turned }

-- the pair, or the same with its right record on the left
abbrev pub side : Bool → Pair → Couple
side turned p = if turned then couple p.right p.left else couple p.left p.right

-- the pair in a list, if the slot has it
abbrev pub shown : Window → Pair → List Couple
shown w p = if has w.slot p.set then side w.turned p ∷ [] else []

-- the number is from the first on, and below the second
abbrev pub is_between : ℕ → ℕ → ℕ → Bool
is_between from to n = nat_le from n && nat_lt n to

-- when the slice at a place begins
abbrev pub start_of : Store → ℕ → ℕ
start_of s place = (slice_of s.slices place).start

-- the starts of the slices at the first so many places, of those that begin in the range
abbrev pub starts_upto : Window → Store → ℕ → List ℕ
starts_upto w s count = filter (is_between w.from w.to) (map (start_of s) (range_with_len 0 count))

-- the starts of all slices that begin in the range
abbrev pub starts_between : Window → Store → List ℕ
starts_between w s = starts_upto w s (length s.slices)

-- what is shown of the slices that begin at c and d
abbrev pub row_shown : Window → Lane → ℕ → ℕ → List Couple
row_shown w lane c d = flat_map (shown w) (unwrap_or (met_at lane c d) [])

-- what is shown of all slices that begin in the range
abbrev pub lane_shown : Window → Lane → Store → Store → List Couple
lane_shown w lane ones others = flat_map (λ c. flat_map (row_shown w lane c) (starts_between w others)) (starts_between w ones)
