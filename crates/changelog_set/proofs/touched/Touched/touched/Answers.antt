use Rattle.std.proofs.Common.{◌*◌, ◌/◌, ◌≤◌, ◌<◌, ◌∙◌, ap, arith}
use Rattle.queryset_lanes.specs.Slots.{either}
use Rattle.changelog_set.specs.Blocks.{gone_of}
use Rattle.changelog_set.proofs.KeepLaws.{touched-split}
use Rattle.changelog_set.proofs.touched.Touched.touched.Goals as goal

pub returns : goal.returns
returns c = λ sets k asked rises within.
    let i = c.args.i in
    let j = c.args.j in
    let first = c.div_ceil-first.result in
    let last = j / 64 in
    let some : first < last = omega (arith, c.if-last-first.false) in
    let from : i ≤ 64 * first = omega (arith, c.div_ceil-first.ensures) in
    let to : 64 * last ≤ j = omega arith in
    let here : gone_of c.args.self.now.unions ≤ first = omega (arith, k.reach, k.count, asked, from) in
    let before = c.walked-before.ensures sets k asked from (omega (arith, some, to, within)) in
    let blocks = c.between-blocks.ensures sets k.blocks here (omega (arith, some)) (omega (arith, to, within)) in
    let after = c.walked-after.ensures sets k (omega (arith, asked, from, some)) to within in
    c.or-2.ensures.value
    ∙ ap (λ union. either union c.walked-after.result) c.or.ensures.value
    ∙ touched-split sets i (64 * first) (64 * last) j c.walked-before.result c.between-blocks.result c.walked-after.result from (omega (arith, some)) to within before blocks after
