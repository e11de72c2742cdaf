use Rattle.std.proofs.Common.{set, ap, ◌∙◌, arith}
use Rattle.changelog.specs.EpochsFor.{owned}
use Rattle.shared_agg.specs.Duties.{duty_of}
use Rattle.shared_agg.proofs.DutyLaws.{renewed-more, renewed-end}
use Rattle.shared_agg.proofs.aggs.renew_all.Goals as goal

pub loop-slot-preserved : goal.loop-slot-preserved
loop-slot-preserved c =
    renewed-more (λ slot. duty_of (owned c.args.epochs.now c.args.epoch slot)) c.args.duties.now c.loop-slot.duties c.set.new.self c.loop-slot.slot c.loop-slot.invariant
    (c.set.ensures.value ∙ ap (set c.loop-slot.duties c.loop-slot.slot) (c.duty_of.ensures ∙ ap duty_of c.owner-owner.ensures.held))

pub returns : goal.returns
returns c =
    renewed-end (λ slot. duty_of (owned c.args.epochs.now c.args.epoch slot)) c.args.duties.now c.loop-slot.duties c.loop-slot.slot
    (omega (arith, c.loop-slot-test.false, c.loop-slot.auto.slot-end)) c.loop-slot.invariant
