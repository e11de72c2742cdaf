use Rattle.std.proofs.Common.{drop, sym, subst, ◌∙◌, arith}
use Rattle.plain_engine.specs.Walk.{AreWaiting}
use Rattle.plain_engine.proofs.TimeLaws.{waiting-drop, drop_more}
use Rattle.plain_engine.proofs.waiting.Waiting.forget.Goals as goal

pub invariant_of-self : goal.invariant_of-self
invariant_of-self c =
    let w = c.self.inside in
    (omega arith, subst AreWaiting (sym (c.cut.ensures ∙ drop_more w.gone c.args.count w.records.items)) (waiting-drop c.args.count (drop w.gone w.records.items) c.self.invariant.1))

pub invariant_of-self-else-self-len : goal.invariant_of-self-else-self-len
invariant_of-self-else-self-len c =
    let w = c.self.inside in
    let low = c.if-self-len.false in
    let len = c.len.ensures in
    let ok = w.records.ok.0 in
    (omega (arith, low, len, ok), subst AreWaiting (sym (drop_more w.gone c.args.count w.records.items)) (waiting-drop c.args.count (drop w.gone w.records.items) c.self.invariant.1))
