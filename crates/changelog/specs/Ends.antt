-- The first edge after a time.
use Rattle.std.specs.Prelude.{ℕ, zero, suc, ◌+◌, ◌-◌, ◌*◌, ◌/◌, ◌^◌, ◌==◌, ◌&&◌, min, nat_lt, if◌then◌else◌, Option, Some, None}
use Rattle.as_base.specs.declared.query.Plan.{Plan}
use Rattle.as_base.specs.declared.stream.StreamId.{StreamId}
use Rattle.as_base.specs.declared.windows.WinSpec.{WinSpec}
use Rattle.views.specs.View.{reads}
use Rattle.views.specs.Slots.{has_windows}

-- the first multiple of a slide that is after the number; 2^62 where the slide is 0
abbrev pub next_multiple : ℕ → ℕ → ℕ
next_multiple slide n = if slide == 0 then 2 ^ 62 else n / slide * slide + slide

-- the first start or end of a window that is after the time, or 2^62 where that is before it
abbrev pub next_edge : WinSpec → ℕ → ℕ
next_edge w t =
    min (min (next_multiple w.slide t) (if nat_lt t w.size then w.size else next_multiple w.slide (t - w.size) + w.size)) (2 ^ 62)

-- the first edge after the time of the windows that the owner of a slot has on a stream; 2^62 where it has none
abbrev pub edge_after : StreamId → ℕ → Option (ℕ × Plan) → ℕ
edge_after s t None = 2 ^ 62
edge_after s t (Some q) = if has_windows q.1.kind && reads q.1 s then next_edge q.1.win t else 2 ^ 62

-- the least of what the numbers below n have; 2^62 where there are none
unfoldable pub least_below : (ℕ → ℕ) → ℕ → ℕ
least_below f zero = 2 ^ 62
least_below f (suc n) = min (least_below f n) (f n)
