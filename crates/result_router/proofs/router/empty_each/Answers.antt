use Rattle.std.proofs.Common.{◌<◌, None, length, slice_set, ap, ◌∙◌, arith}
use Rattle.result_router.proofs.HeldLaws.{let_go}
use Rattle.result_router.proofs.router.empty_each.Goals as goal

pub loop-part-preserved : goal.loop-part-preserved
loop-part-preserved c =
    let within : c.loop-part.part < length c.args.held.now.items = omega (arith, c.loop-part-test.true, c.len-part-end.ensures, c.args.held.now.ok.0, c.loop-part.auto.part-end) in
    ap (λ l. slice_set l c.loop-part.part None) c.loop-part.invariant ∙ let_go c.loop-part.part c.args.held.now.items within
