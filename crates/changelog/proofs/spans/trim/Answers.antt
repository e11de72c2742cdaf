use Rattle.std.proofs.Common.{None, ◌<◌, ◌≤◌, ◌-◌, length, get_or, subst, ap, ◌∙◌, arith}
use Rattle.changelog.specs.declared.spans.Span.{Span}
use Rattle.changelog.specs.Spans.{holder_at}
use Rattle.changelog.proofs.SpanLaws.{holder_from-drop}
use Rattle.changelog.proofs.spans.trim.Goals as goal

pub returns-then-index-epoch-clause-same : goal.returns-then-index-epoch-clause-same
returns-then-index-epoch-clause-same c = λ e h.
    let xs = c.loop-left.spans.items in
    let place = c.loop-left.left - 1 in
    let d = c.index.result.now in
    let within : place < length xs = omega (arith, c.loop-left-test.true, c.loop-left.invariant.1) in
    let by : d.epoch ≤ e = omega (arith, c.if-index-epoch.true, h) in
    let here : (get_or xs place d).epoch ≤ e = subst (λ (x : Span). x.epoch ≤ e) c.index.ensures by in
    ap (λ ys. holder_at ys e) c.cut.ensures ∙ holder_from-drop None None xs place d e within here ∙ ap (λ ys. holder_at ys e) c.loop-left.invariant.0
