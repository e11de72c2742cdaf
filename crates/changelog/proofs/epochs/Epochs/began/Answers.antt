use Rattle.std.proofs.Common.{ap, ◌∙◌, ◌-◌, length, take}
use Rattle.changelog.specs.Changes.{last_or}
use Rattle.changelog.proofs.KeepLaws.{keeps-began}
use Rattle.changelog.proofs.epochs.Epochs.began.Goals as goal

pub returns : goal.returns
returns c = λ cs k asked within.
    let e = c.args.self.now in
    c.began_before.ensures
    ∙ ap (λ times. last_or e.floor (take (length times - c.saturating_sub.result) times)) c.deref.ensures.value
    ∙ ap (λ later. last_or e.floor (take (length e.times.items - later) e.times.items)) c.saturating_sub.ensures
    ∙ keeps-began e.last e.floor e.times.items e.table.items cs c.args.epoch k.0 asked within
