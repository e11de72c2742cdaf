-- The windows of a query: their limits, their edges, and which of them hold a time.
use Rattle.std.specs.Prelude.{ℕ, ◌≡◌, ◌⊎◌, ◌+◌, ◌-◌, ◌*◌, ◌/◌, max, nat_le, nat_lt, ◌&&◌, if◌then◌else◌, Bool, List}
use Rattle.std.specs.List.{range_with_len}
use Rattle.as_base.specs.declared.windows.WinSpec.{WinSpec}

-- The windows move on, leave no gap, are at most 2^32 ticks long, and at most 64 of them hold one time.
abbrev pub fits : WinSpec → Bool
fits w = nat_le 1 w.slide && nat_le w.slide w.size && nat_le w.size 4294967296 && nat_le w.size (64 * w.slide)

-- windows of one tick each: those of a selection
abbrev pub one_tick : WinSpec
one_tick = record { size = 1; slide = 1 }

-- where window k begins
abbrev pub start_of : WinSpec → ℕ → ℕ
start_of w k = k * w.slide

-- the first time after window k
abbrev pub end_of : WinSpec → ℕ → ℕ
end_of w k = start_of w k + w.size

-- window k holds the time
abbrev pub in_window : WinSpec → ℕ → ℕ → Bool
in_window w k t = nat_le (start_of w k) t && nat_lt t (end_of w k)

-- the first window that holds the time
abbrev pub first_window : WinSpec → ℕ → ℕ
first_window w t = if nat_lt t w.size then 0 else (t - w.size) / w.slide + 1

-- the last window that holds the time
abbrev pub last_window : WinSpec → ℕ → ℕ
last_window w t = t / w.slide

-- the windows that hold the time, by rising number
abbrev pub windows_at : WinSpec → ℕ → List ℕ
windows_at w t = range_with_len (first_window w t) (last_window w t - first_window w t + 1)

-- the time is a start or an end of a window
abbrev pub IsEdge : WinSpec → ℕ → Type 0
IsEdge w e = (k : ℕ) × ((e ≡ start_of w k) ⊎ (e ≡ end_of w k))

-- the latest start or end of a window that is not after the time
abbrev pub last_edge : WinSpec → ℕ → ℕ
last_edge w t = max (start_of w (last_window w t)) (if nat_lt t w.size then 0 else end_of w ((t - w.size) / w.slide))
