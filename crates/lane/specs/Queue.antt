-- A queue: its items and its room.
use Rattle.std.specs.Prelude.{ℕ, ◌<◌, ◌≤◌, ◌^◌, List, length, refl}
use Rattle.std.specs.Coded.{Coded, code_by, coded×, coded_list, coded_ℕ}

-- the items, from the front to the back, and how many there may be
pub record Queue (X : Type 0) : Type 0 where
  pub items : List X
  pub room : ℕ

module _ {X : Type 0} where
  abbrev pub queue : List X → ℕ → Queue X
  queue items room = record { items = items; room = room }

  -- a queue is stored as the pair of its fields
  abbrev pub queue_code : Coded X → Coded (Queue X)
  queue_code c = code_by (List X × ℕ) (coded× (coded_list c) coded_ℕ) (λ q. (q.items, q.room)) (λ p. queue p.0 p.1) (λ _. refl)

  -- there is room for some items, and for those that are there
  abbrev pub HasRoom : Queue X → Type 0
  HasRoom q = (1 ≤ q.room) × (q.room < 2 ^ 32) × (length q.items ≤ q.room)
