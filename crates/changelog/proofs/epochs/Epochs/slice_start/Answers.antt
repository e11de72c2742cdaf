use Rattle.std.proofs.Common.{◌≡◌, ◌≤◌, ◌+◌, length, sym, subst}
use Rattle.changelog.specs.Changes.{epoch_at}
use Rattle.changelog.proofs.KeepLaws.{epoch_at-le, keeps-start}
use Rattle.changelog.proofs.epochs.Epochs.slice_start.Goals as goal

pub returns : goal.returns
returns c = λ cs k asked.
    let e = c.args.self.now in
    let epoch = c.epoch_at-epoch.result in
    let same : epoch ≡ epoch_at cs c.args.time = c.epoch_at-epoch.ensures cs k asked in
    let kept : e.last ≤ epoch + length e.times.items = subst (λ n. e.last ≤ n + length e.times.items) (sym same) asked in
    let within : epoch ≤ length cs = subst (λ n. n ≤ length cs) (sym same) (epoch_at-le cs c.args.time) in
    keeps-start e.last e.floor e.times.items e.table.items c.deref.result.now cs epoch c.args.s c.args.time c.began-began.result c.last_edges.result c.max.result
    k.0 kept same c.deref.ensures.value c.max.ensures (c.began-began.ensures cs k kept within) c.last_edges.ensures
