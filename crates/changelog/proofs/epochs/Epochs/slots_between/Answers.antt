use Rattle.std.proofs.Common.{◌-◌, ap, ◌∙◌}
use Rattle.changelog.proofs.SlotLaws.{slots-between}
use Rattle.changelog.proofs.epochs.Epochs.slots_between.Goals as goal

pub returns-clause-slots : goal.returns-clause-slots
returns-clause-slots c = λ cs k asked le within.
    let e = c.args.self.now in
    slots-between e.last e.floor e.times.items e.slots c.part.result.now e.table.items cs c.args.from c.args.to c.saturating_sub-trimmed.result c.saturating_sub-first.result c.count_between.result
    k.0 k.1 asked (c.saturating_sub-trimmed.ensures ∙ ap (λ n. e.last - n) c.len.ensures) c.saturating_sub-first.ensures c.count_between.ensures c.part.ensures.part
