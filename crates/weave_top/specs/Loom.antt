-- What stands before a weave begins, and what it leaves.
use Rattle.std.specs.Prelude.{ℕ, ◌≡◌, Option, List, [], ◌∷◌, map}
use Rattle.std.specs.List.{AllByRecursion}
use Rattle.inbox.specs.Passes.{id_of, inbox_of, feeder_in, offered, taker_inbox, taken, five_times}
use Rattle.feeder.specs.declared.maker.Maker.{Maker}
use Rattle.feeder.specs.Maker.{HasMade}
use Rattle.service.specs.declared.engine.QueryEngine as engine
use Rattle.taker.specs.Gather.{Keeps, StandsAfter}
use Rattle.weave_top.specs.declared.loom.Loom.{Loom}
use Rattle.weave_top.specs.declared.weaving.Weaving.{Weaving}

-- a maker that has made nothing yet, for at most so many bytes
abbrev pub IsFreshMaker : ℕ → Maker → Type 0
IsFreshMaker limit m = (left : Option (List ℕ)) → HasMade limit [] 0 left m []

-- Nothing was offered, taken, noted or processed.
pub record IsFresh {E : Type 0} (e : engine.Ghosts E) (w : Weaving) (loom : Loom E) : Type 0 where
  pub inboxes : map inbox_of loom.passes ≡ five_times (id_of loom.inbox)
  pub numbers : map feeder_in loom.passes ≡ 1 ∷ 2 ∷ 3 ∷ 4 ∷ 5 ∷ []
  pub offers : map offered loom.passes ≡ five_times []
  pub makers : AllByRecursion (IsFreshMaker w.limit) loom.makers
  pub inbox : taker_inbox loom.gather.pass ≡ id_of loom.inbox
  pub none : taken loom.gather.pass ≡ []
  pub keeps : Keeps e loom.gather
  pub stands : StandsAfter e w.config loom.gather []
