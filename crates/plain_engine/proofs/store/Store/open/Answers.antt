use Rattle.std.proofs.Common.{[], ◌∷◌, ◌++◌, nat_lt, is_ok, true, true≢false, refl, sym, ap, ap₂, ◌∙◌}
use Rattle.std.specs.List.{list_all}
use Rattle.plain_engine.specs.Held.{Held}
use Rattle.plain_engine.proofs.PieceLaws.{rising-pushed}
use Rattle.plain_engine.proofs.StepLaws.{open-step, next-held}
use Rattle.plain_engine.proofs.store.Store.open.Goals as goal

pub returns-then-not-is_next : goal.returns-then-not-is_next
returns-then-not-is_next c = λ v slot is f stands.
    absurd (true≢false (sym (next-held v c.args.n c.args.self.now.held.items is f.1 stands.held) ∙ ap (list_all (λ (h : Held). nat_lt h.n c.args.n)) (sym c.deref.ensures.value) ∙ sym c.is_next.ensures ∙ c.if-not-is_next.true))

pub invariant_of-self : goal.invariant_of-self
invariant_of-self c =
    let held = c.args.self.now.held.items in
    let next =
    ap (λ (k : Held). list_all (λ (h : Held). nat_lt h.n k.n) held) c.opened-holding.ensures
    ∙ ap (list_all (λ (h : Held). nat_lt h.n c.args.n)) (sym c.deref.ensures.value)
    ∙ sym c.is_next.ensures
    ∙ c.if-not-is_next.false in
    record { rising = rising-pushed (is_ok c.push.result) held c.push.new.self.items c.opened-holding.result c.push.ensures.items next c.args.self.now.rising }

pub returns : goal.returns
returns c = λ v slot is f stands.
    let tested =
    ap₂ nat_lt (sym c.mark_by.ensures) (ap (λ (h : Held). h.to) (sym c.opened-holding.ensures)) ∙ sym c.awaits.ensures ∙ c.if-not-awaits.false in
    open-step c.args.self.now _ v c.args.n slot c.args.at c.args.plan.now true f.0 stands refl tested
    (c.in_ok-push.ensures.items ∙ ap (λ (k : Held). c.args.self.now.held.items ++ k ∷ []) c.opened-holding.ensures)
