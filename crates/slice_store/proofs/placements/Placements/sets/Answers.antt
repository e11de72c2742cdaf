use Rattle.std.proofs.Common.{sym, ap, ◌∙◌}
use Rattle.slice_store.specs.Placed.{sets_of}
use Rattle.slice_store.proofs.PlacedLaws.{sets-placed}
use Rattle.slice_store.proofs.placements.Placements.sets.Goals as goal

pub returns : goal.returns
returns c = c.deref.ensures.value ∙ sym (sets-placed c.self.inside.records.items c.self.inside.sets.items c.self.invariant) ∙ ap sets_of c.self.view_is
