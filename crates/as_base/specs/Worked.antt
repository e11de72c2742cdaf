-- Worked windows, evaluated on the definitions alone.
use Rattle.std.specs.Prelude.{◌≡◌, ◌-◌, ◌^◌, refl, true, false}
use Rattle.as_base.specs.declared.windows.WinSpec.{WinSpec}
use Rattle.as_base.specs.Windows.{fits, first_window, last_window, in_window, last_edge}

-- size 10 and slide 4, and size 10 and slide 5
abbrev by_four : WinSpec
by_four = record { size = 10; slide = 4 }

abbrev by_five : WinSpec
by_five = record { size = 10; slide = 5 }

pub edge_at_eleven : last_edge by_four 11 ≡ 10
edge_at_eleven = refl

pub edge_at_thirteen : last_edge by_four 13 ≡ 12
edge_at_thirteen = refl

pub edge_at_three : last_edge by_four 3 ≡ 0
edge_at_three = refl

pub first_at_seven : first_window by_five 7 ≡ 0
first_at_seven = refl

pub last_at_seven : last_window by_five 7 ≡ 1
last_at_seven = refl

pub first_at_twelve : first_window by_five 12 ≡ 1
first_at_twelve = refl

pub last_at_twelve : last_window by_five 12 ≡ 2
last_at_twelve = refl

-- both ends of time, and both sides of a window's end
pub last_time : in_window (record { size = 1; slide = 1 }) (2 ^ 62 - 1) (2 ^ 62 - 1) ≡ true
last_time = refl

pub at_an_end : in_window by_five 0 10 ≡ false
at_an_end = refl

-- the limits: 64 windows at once, not 65; a size of 2^32, not one more; no slide of 0
pub most_at_once : fits (record { size = 64; slide = 1 }) ≡ true
most_at_once = refl

pub too_many_at_once : fits (record { size = 65; slide = 1 }) ≡ false
too_many_at_once = refl

pub longest : fits (record { size = 4294967296; slide = 67108864 }) ≡ true
longest = refl

pub too_long : fits (record { size = 4294967297; slide = 4294967297 }) ≡ false
too_long = refl

pub no_slide : fits (record { size = 1; slide = 0 }) ≡ false
no_slide = refl
