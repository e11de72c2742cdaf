use Rattle.std.proofs.Common.{map, refl, sym, ap, subst, ◌∙◌}
use Rattle.std.specs.List.{filter}
use Rattle.std.specs.List.Sorted.{IsStrictlyIncreasing}
use Rattle.plain_engine.specs.Holding.{ended, still_awaits}
use Rattle.plain_engine.proofs.PieceLaws.{numbers_of, written-map, rising-map, rising-kept, KeepsNumbers-ended}
use Rattle.plain_engine.proofs.StepLaws.{close-step}
use Rattle.plain_engine.proofs.store.Store.close.Goals as goal

pub invariant_of-self : goal.invariant_of-self
invariant_of-self c =
    let held = c.args.self.now.held in
    let lasts = still_awaits c.args.self.now.marks in
    let ending = ended c.args.n c.args.at in
    let all = c.drop_ended.ensures ∙ ap (filter lasts) (written-map ending held.len held.items c.deref_mut.result.now c.end_among.new.held held.ok.0 c.deref_mut.ensures.value c.end_among.ensures) in
    record {
      rising = subst (λ l. IsStrictlyIncreasing (numbers_of l)) (sym all)
          (rising-kept lasts (map ending held.items) (rising-map ending (KeepsNumbers-ended c.args.n c.args.at) held.items c.args.self.now.rising));
    }

pub returns : goal.returns
returns c = λ v slot is f stands.
    let held = c.args.self.now.held in
    let ending = ended c.args.n c.args.at in
    close-step c.args.self.now _ v c.args.n slot c.args.at is f stands refl
    (c.drop_ended.ensures ∙ ap (filter (still_awaits c.args.self.now.marks)) (written-map ending held.len held.items c.deref_mut.result.now c.end_among.new.held held.ok.0 c.deref_mut.ensures.value c.end_among.ensures))
