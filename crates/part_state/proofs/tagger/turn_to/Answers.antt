use Rattle.std.proofs.Common.{◌∙◌}
use Rattle.changelog.proofs.BySlotLaws.{by_slot-between}
use Rattle.part_state.specs.Keeping.{keeps_records}
use Rattle.part_state.proofs.tagger.turn_to.Goals as goal

pub returns : goal.returns
returns c = λ cs stands kept up within was.
    c.renew_all.ensures
    ∙ by_slot-between keeps_records c.args.epochs.now cs c.args.from c.args.to c.slots_between-slots.result.now c.args.keepers.now
    stands kept up c.slots_between-slots.ensures.within (c.slots_between-slots.ensures.slots cs stands kept up within) was
