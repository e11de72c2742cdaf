use Rattle.std.proofs.Common.{◌≡◌, ◌<◌, ◌≤◌, ◌-◌, length, take, sym, ap, ◌∙◌, arith}
use Rattle.changelog.specs.Changes.{last_or}
use Rattle.changelog.proofs.NumberLaws.{last_or-take}
use Rattle.changelog.proofs.epochs.began_before.Goals as goal

pub returns : goal.returns
returns c =
    let times = c.args.times.now in
    let count = c.saturating_sub-count.result in
    let is : count ≡ length times - c.args.later = c.saturating_sub-count.ensures in
    let some : 0 < count = omega (arith, c.if-count-eq0.false) in
    let within : count ≤ length times = omega (arith, is) in
    sym (last_or-take c.args.floor times count some within) ∙ ap (λ n. last_or c.args.floor (take n times)) is
