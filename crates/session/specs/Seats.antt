-- Seats: the live queries, and the slots that they hold.
use Rattle.std.specs.Prelude.{ℕ, ◌≡◌, if◌then◌else◌, Bool, List, map}
use Rattle.as_base.specs.Times.{times}
use Rattle.slot_alloc.specs.Slots.{is_live}
use Rattle.session.specs.declared.session.Seat.{Seat}

-- a slot that is live is the slot of one seat, and a slot that is free that of none
abbrev pub AreSeated : List Bool → List Seat → Type 0
AreSeated slots seats = (slot : ℕ) → times slot (map (λ (s : Seat). s.slot) seats) ≡ (if is_live slots slot then 1 else 0)
