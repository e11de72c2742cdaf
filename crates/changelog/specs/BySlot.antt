-- What the owners of all slots in an epoch tell, slot by slot, and lists of that whose slots are renewed.
use Rattle.std.specs.Prelude.{ℕ, Option, List, map, slice_set}
use Rattle.std.specs.List.{fold, range_with_len}
use Rattle.as_base.specs.declared.message.Change.{Change}
use Rattle.as_base.specs.declared.query.Plan.{Plan}
use Rattle.changelog.specs.Changes.{owner}

-- for each of the 512 slots, what its owner in the epoch tells
unfoldable pub by_slot : {X : Type 0} → (Option (ℕ × Plan) → X) → List Change → ℕ → List X
by_slot tells cs epoch = map (λ slot. tells (owner cs epoch slot)) (range_with_len 0 512)

-- the list after each of the slots, one after another, got what shall stand there
abbrev pub renewed : {X : Type 0} → (ℕ → X) → List X → List ℕ → List X
renewed at xs slots = fold (λ ys slot. slice_set ys slot (at slot)) xs slots
