use Rattle.std.proofs.Common.{◌*◌, ◌^◌, List, cond, nat_le, ap, ◌∙◌, sym}
use Rattle.std.specs.List.{filter}
use Rattle.std.proofs.lemmas.Bool.{lt-leb}
use Rattle.as_base.specs.declared.item.Given.{Given}
use Rattle.as_base.specs.Windows.{first_window}
use Rattle.plain_engine.specs.Held.{Held}
use Rattle.plain_engine.specs.Holding.{first_left, forgotten}
use Rattle.plain_engine.proofs.HeldLaws.{needed-from, forgotten-is}
use Rattle.plain_engine.proofs.holding.Holding.forget.Goals as goal

pub returns : goal.returns
returns c =
    let i = c.self.inside in
    let w = i.plan.win in
    let mark = c.args.mark in
    let h : Held = record { n = i.n; plan = i.plan; from = i.from; to = i.to; lefts = i.lefts; rights = i.rights } in
    let first = c.first_left.ensures.value ∙ ap (λ (h : Held). first_left h mark) (sym c.self.view_is) ∙ ap (λ b. cond b (2 ^ 62) (first_window w mark)) (lt-leb i.to mark c.if-self-mark.false) in
    let kept = λ (gs : List Given). ap (λ first. filter (λ (g : Given). nat_le (first * w.slide) g.time) gs) first ∙ needed-from w mark gs c.self.invariant.0 in
    forgotten-is h mark c.forget_before.new.self c.forget_before-2.new.self c.if-self-mark.false (c.forget_before.ensures ∙ kept i.lefts) (c.forget_before-2.ensures ∙ kept i.rights)
    ∙ ap (forgotten mark) c.self.view_is
