-- Things by rising start: what begins when, look-ups, and places.
use Rattle.std.specs.Prelude.{ℕ, ◌<◌, nat_le, nat_lt, ◌==◌, ◌&&◌, Bool, if◌then◌else◌, Option, Some, None, List, [], ◌∷◌, zero, suc, count_by, slice_set}
use Rattle.std.specs.List.{AllByRecursion, insert, remove}
use Rattle.by_start.specs.declared.Begun.{Begun}

-- the places from the first on and before the second; (0, 0) where there are none
abbrev pub places : ℕ → ℕ → ℕ × ℕ
places first past = if nat_lt first past then (first, past) else (0, 0)

module _ {X : Type 0} where
  -- a thing that begins there
  abbrev pub begun : ℕ → X → Begun X
  begun start thing = record { start = start; thing = thing }

  -- the thing that begins there; `None` where none does
  abbrev pub look : ℕ → List (Begun X) → Option X
  look c [] = None
  look c (b ∷ bs) = if c == b.start then Some b.thing else look c bs

  -- each begins before those behind it
  abbrev pub StartsRise : List (Begun X) → Type 0
  StartsRise [] = Unit {0}
  StartsRise (b ∷ bs) = AllByRecursion (λ (later : Begun X). b.start < later.start) bs × StartsRise bs

  -- when the one at this place begins; 0 where there is none
  abbrev pub start_at : ℕ → List (Begun X) → ℕ
  start_at i [] = 0
  start_at zero (b ∷ bs) = b.start
  start_at (suc i) (b ∷ bs) = start_at i bs

  -- the thing at this place; `None` where there is none
  abbrev pub thing_at : ℕ → List (Begun X) → Option X
  thing_at i [] = None
  thing_at zero (b ∷ bs) = Some b.thing
  thing_at (suc i) (b ∷ bs) = thing_at i bs

  -- how many begin before the time
  abbrev pub begun_before : ℕ → List (Begun X) → ℕ
  begun_before t list = count_by (λ (b : Begun X). nat_lt b.start t) list

  -- it begins at `from` or later, and before `to`
  abbrev pub begins_within : ℕ → ℕ → Begun X → Bool
  begins_within from to b = nat_le from b.start && nat_lt b.start to

  -- the places of those that begin at `from` or later, and before `to`
  abbrev pub range_of : ℕ → ℕ → List (Begun X) → ℕ × ℕ
  range_of from to list = places (begun_before from list) (begun_before to list)

  -- the list with a thing more, before all that begin later
  abbrev pub with_begun : ℕ → X → List (Begun X) → List (Begun X)
  with_begun start thing list = insert list (begun_before start list) (begun start thing)

  -- the list without the one at this place
  abbrev pub without : ℕ → List (Begun X) → List (Begun X)
  without place list = remove list place

  -- the list with another thing at this place, which begins when the former did
  abbrev pub with_thing : ℕ → List (Begun X) → X → List (Begun X)
  with_thing place list thing = slice_set list place (begun (start_at place list) thing)
