-- The five feeders before and after.
use Rattle.std.specs.Prelude.{◌≡◌, Option, Some, None, List, [], ◌∷◌}
use Rattle.std.specs.List.{AllByRecursion}
use Rattle.as_outside.specs.declared.source.Source as source
use Rattle.inbox.specs.declared.passes.Inbox.{Inbox}
use Rattle.inbox.specs.Passes.{id_of, inbox_of}
use Rattle.feeder.specs.declared.feeder.Feeder.{Feeder}
use Rattle.feeder.specs.Going.{IsLater}
use Rattle.team.specs.declared.team.Five.{Five}

-- the five in their order
abbrev pub all_of : {F : Type 0} → Five F → List (Feeder F)
all_of five = five.one ∷ five.two ∷ five.three ∷ five.four ∷ five.five ∷ []

-- the passes of all are of this inbox
abbrev pub AllAt : {F W : Type 0} → Inbox W → List (Feeder F) → Type 0
AllAt inbox feeders = AllByRecursion (λ f. inbox_of f.pass ≡ id_of inbox) feeders

-- each is a later state of its own
abbrev pub AreLater : {F : Type 0} → source.Ghosts F → List (Feeder F) → List (Feeder F) → Type 0
AreLater s [] [] = Unit {0}
AreLater s (a ∷ old) (b ∷ new) = IsLater s a b × AreLater s old new
AreLater s _ _ = ⊥

-- five are kept, each a later state of its own
abbrev pub AreKept : {F : Type 0} → source.Ghosts F → List (Feeder F) → Option (Five F) → Type 0
AreKept s feeders None = ⊥
AreKept s feeders (Some kept) = AreLater s feeders (all_of kept)
