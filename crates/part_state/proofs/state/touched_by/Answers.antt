use Rattle.std.proofs.Common.{◌∙◌, true, ap₂}
use Rattle.std.specs.Prelude.{slice_set}
use Rattle.part_state.proofs.state.touched_by.Goals as goal

pub returns : goal.returns
returns c = c.with.ensures.value ∙ ap₂ (λ set slot. slice_set set slot true) c.none.ensures c.slot_of.ensures
