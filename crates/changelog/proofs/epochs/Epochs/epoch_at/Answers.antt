use Rattle.std.proofs.Common.{◌∙◌}
use Rattle.changelog.proofs.KeepLaws.{keeps-epoch-by}
use Rattle.changelog.proofs.epochs.Epochs.epoch_at.Goals as goal

pub returns : goal.returns
returns c = λ cs k asked.
    let e = c.args.self.now in
    keeps-epoch-by e.last e.floor e.times.items e.table.items cs c.deref.result.now c.count_until.result c.len.result c.args.time c.saturating_sub.result k.0
    c.deref.ensures.value c.count_until.ensures.within c.count_until.ensures.later c.count_until.ensures.earlier (c.len.ensures ∙ e.times.ok.0) c.saturating_sub.ensures asked
