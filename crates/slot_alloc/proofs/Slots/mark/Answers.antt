use Rattle.std.proofs.Common.{◌<◌, ◌∙◌, length, take, set, ap, arith, length-take-le}
use Rattle.std.proofs.Math.Seq.{take-set-lt}
use Rattle.slot_alloc.proofs.Slots.mark.Goals as goal

pub returns : goal.returns
returns c =
    let count = c.self.inside.slots in
    let live = c.self.inside.live in
    let within : c.args.slot < count = omega (arith, ap length c.self.view_is, length-take-le count live) in
    ap (take count) c.with-self-inside.ensures.value
    ∙ take-set-lt count live c.args.slot c.args.live within
    ∙ ap (λ slots. set slots c.args.slot c.args.live) c.self.view_is
