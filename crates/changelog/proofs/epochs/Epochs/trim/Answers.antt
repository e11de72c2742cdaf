use Rattle.std.proofs.Common.{◌≡◌, ◌≤◌, ◌-◌, length, length-drop, drop, ap, subst, arith}
use Rattle.changelog.specs.EpochsFor.{spans_of}
use Rattle.changelog.specs.Spans.{BeginAfter}
use Rattle.changelog.proofs.KeepLaws.{keeps-trim-by, newest-trim-by}
use Rattle.changelog.proofs.SlotLaws.{slots-trim, keeps-few}
use Rattle.changelog.proofs.epochs.Epochs.trim.Goals as goal

pub returns-clause-same : goal.returns-clause-same
returns-clause-same c = λ cs k.
    let e = c.args.self.now in
    let low : c.min-base.result ≤ e.last = omega (arith, c.min-base.ensures) in (
      keeps-trim-by e.last e.floor e.times.items c.deref.result.now c.cut.new.times.items e.table.items c.trim_table.new.table.items cs c.min-base.result e.times.len c.began_before-self.result
          k.0 low e.times.ok.0 c.deref.ensures.value c.began_before-self.ensures c.cut.ensures c.trim_table.ensures.same,
      slots-trim e.times.items c.cut.new.times.items e.slots c.cut-2.new.self cs e.times.len (e.last - c.min-base.result) (keeps-few e.last e.floor e.times.items e.table.items cs k.0) k.1 e.times.ok.0 c.cut.ensures c.cut-2.ensures,
    )

pub returns-clause-newest : goal.returns-clause-newest
returns-clause-newest c =
    let e = c.args.self.now in
    newest-trim-by e.last e.floor e.times.items c.deref.result.now c.cut.new.times.items c.min-base.result e.times.len c.began_before-self.result
    e.times.ok.0 c.deref.ensures.value c.began_before-self.ensures c.cut.ensures

pub returns-clause-freed : goal.returns-clause-freed
returns-clause-freed c = λ low.
    let times = c.args.self.now.times in
    let later = c.args.self.now.last - c.min-base.result in
    let left : length c.cut.new.times.items ≡ length (drop (times.len - later) times.items) = ap length c.cut.ensures in
    omega (arith, low, c.min-base.ensures, left, length-drop (times.len - later) times.items, times.ok.0)

pub returns-clause-owners : goal.returns-clause-owners
returns-clause-owners c = λ slot low.
    let all : c.min-base.result ≡ c.args.epoch = omega (arith, c.min-base.ensures, low) in
    subst (λ n. BeginAfter n (drop 1 (spans_of c.trim_table.new.table.items slot))) all (c.trim_table.ensures.freed slot)
