use Rattle.std.proofs.Common.{sym, ◌∙◌, arith}
use Rattle.changelog.proofs.SpanLaws.{holder_at-here, holder_at-later}
use Rattle.changelog.proofs.spans.holder_at.Goals as goal

pub returns-then-span-epoch : goal.returns-then-span-epoch
returns-then-span-epoch c =
    sym (c.loop-left.invariant.1 ∙ holder_at-here c.args.spans.now c.loop-left.left _ c.args.epoch c.loop-left-test.true c.loop-left.invariant.0 c.if-span-epoch.true)

pub loop-left-preserved : goal.loop-left-preserved
loop-left-preserved c = (
  omega (arith, c.loop-left.invariant.0),
  c.loop-left.invariant.1 ∙ holder_at-later c.args.spans.now c.loop-left.left _ c.args.epoch c.loop-left-test.true c.loop-left.invariant.0 c.if-span-epoch.false,
)
