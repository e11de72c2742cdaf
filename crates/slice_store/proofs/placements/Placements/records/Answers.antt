use Rattle.std.proofs.Common.{sym, ap, ◌∙◌}
use Rattle.slice_store.specs.Placed.{records_of}
use Rattle.slice_store.proofs.PlacedLaws.{records-placed}
use Rattle.slice_store.proofs.placements.Placements.records.Goals as goal

pub returns : goal.returns
returns c = c.deref.ensures.value ∙ sym (records-placed c.self.inside.records.items c.self.inside.sets.items c.self.invariant) ∙ ap records_of c.self.view_is
