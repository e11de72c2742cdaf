use Rattle.std.proofs.Common.{◌∙◌, sym}
use Rattle.part_state.specs.Waiting.{waits}
use Rattle.part_state.proofs.SetLaws.{slots-step, slots-none}
use Rattle.part_state.proofs.waiting.slots_in.Goals as goal

pub loop-e-init : goal.loop-e-init
loop-e-init c = c.none-set.ensures ∙ sym (slots-none (waits c.args.wait c.args.marks.now c.args.start))

pub loop-e-preserved : goal.loop-e-preserved
loop-e-preserved c =
    slots-step _ (waits c.args.wait c.args.marks.now c.args.start) c.args.entries.now c.loop-e.e-index c.loop-e.set c.with_waiting-set.result
    c.loop-e-test.true c.with_waiting-set.ensures c.loop-e.invariant
